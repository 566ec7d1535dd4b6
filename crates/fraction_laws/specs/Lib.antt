pub mod Fractions
pub mod Locators
