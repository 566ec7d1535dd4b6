pub mod Holdings
pub mod Invariant
