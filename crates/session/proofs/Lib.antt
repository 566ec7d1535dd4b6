pub mod Pieces
pub mod NodeSteps
pub mod Links
pub mod Endings
pub mod Takes
pub mod Bounds
