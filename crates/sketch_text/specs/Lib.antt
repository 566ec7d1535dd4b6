pub mod Readings
pub mod Repeats
pub mod Seats
