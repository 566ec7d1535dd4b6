pub mod Stages
pub mod Turns
pub mod Questions
pub mod Outcomes
