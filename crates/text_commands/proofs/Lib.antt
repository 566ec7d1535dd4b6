pub mod Answered
pub mod Differences
pub mod Endings
pub mod Examples
pub mod Sets
pub mod Spelled
pub mod Texts
