pub mod Ends
pub mod Scripts
pub mod Generator
pub mod Pairs
pub mod Works
