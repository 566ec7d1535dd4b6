pub mod Locators
pub mod Multiples
pub mod Steps
