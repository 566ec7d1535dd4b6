pub mod Samples
pub mod Runs
pub mod RoundExample
pub mod TwoRounds
