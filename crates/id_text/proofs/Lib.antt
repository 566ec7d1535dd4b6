pub mod Digits
pub mod Folds
