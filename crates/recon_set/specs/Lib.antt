pub mod Members
pub mod Groups
pub mod Invariant
pub mod Sums
pub mod Pairs
pub mod Changes
pub mod Announcements
