pub mod Reading
pub mod Sketches
