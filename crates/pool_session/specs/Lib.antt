pub mod PoolFiles
pub mod Runs
