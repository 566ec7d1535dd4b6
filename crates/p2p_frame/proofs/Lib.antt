pub mod Commands
pub mod Fed
pub mod Headers
