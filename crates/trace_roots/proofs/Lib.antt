mod Answering
mod Ascending
pub mod Decoded
mod Found
mod Halving
mod Parting
mod Solving
mod Stepping
mod Whole
