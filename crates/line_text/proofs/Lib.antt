pub mod Cutting
pub mod Numbering
pub mod Steps
