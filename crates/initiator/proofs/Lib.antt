pub mod Stages
pub mod Sketches
pub mod Counts
pub mod Moves
