pub mod Views
pub mod Handling
pub mod Answers
