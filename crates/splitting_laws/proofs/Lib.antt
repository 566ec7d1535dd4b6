pub mod Windows
pub mod Recurrences
pub mod Parts
pub mod Factors
pub mod Alike
pub mod Permutations
