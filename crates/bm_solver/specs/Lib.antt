pub mod Locators
pub mod Searches
