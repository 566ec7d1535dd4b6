pub mod Dividing
pub mod Steps
pub mod Extending
pub mod Tables
