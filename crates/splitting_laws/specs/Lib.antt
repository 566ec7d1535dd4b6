pub mod Parts
pub mod Alike
