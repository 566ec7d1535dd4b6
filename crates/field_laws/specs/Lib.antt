pub mod Rests
pub mod Certified
