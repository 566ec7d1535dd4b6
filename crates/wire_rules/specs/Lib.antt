pub mod Commands
pub mod Layout
pub mod Lent
pub mod Limits
pub mod Reading
pub mod Stream
pub mod Shown
pub mod ShownReading
