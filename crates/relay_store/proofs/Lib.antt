pub mod Changes
pub mod Counts
pub mod Entries
pub mod Held
pub mod Insertions
pub mod NewIds
pub mod Receipts
pub mod Rooms
