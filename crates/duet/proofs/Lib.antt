pub mod Scripts
pub mod Pools
pub mod Reached
pub mod Gaining
pub mod Happening
pub mod Pairs
