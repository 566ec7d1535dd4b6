pub mod Lines
pub mod Reading
pub mod Digits
pub mod Numbers
