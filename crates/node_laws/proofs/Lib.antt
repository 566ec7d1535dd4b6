pub mod Rows
pub mod LaterSteps
pub mod Ended
pub mod Handling
pub mod Streaming
pub mod NewIds
pub mod OutOfMemory
pub mod Questions
