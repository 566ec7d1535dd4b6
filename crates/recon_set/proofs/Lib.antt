pub mod Entries
pub mod Groups
pub mod Kept
pub mod Toggles
pub mod Changes
pub mod Starts
pub mod Listed
pub mod Announced
