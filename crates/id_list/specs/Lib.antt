pub mod Entries
pub mod Invariant
