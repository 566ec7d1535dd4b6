pub mod FrameReading
pub mod StreamReading
