pub mod Outside
pub mod Answers
pub mod Ends
pub mod Codes
pub mod Stops
pub mod SketchLines
