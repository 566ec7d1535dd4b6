pub mod PowerSums
pub mod Sketches
pub mod Sets
pub mod Answers
