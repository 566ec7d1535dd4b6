pub mod Rests
pub mod Squares
