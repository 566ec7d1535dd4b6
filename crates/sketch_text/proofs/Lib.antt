pub mod Digits
pub mod Found
pub mod Pairs
pub mod Marks
pub mod Spelled
pub mod Sets
pub mod Numbers
pub mod Seated
