pub mod Fractions
pub mod SeriesProducts
pub mod Locators
