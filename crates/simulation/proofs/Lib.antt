pub mod NewPairs
pub mod Runs
