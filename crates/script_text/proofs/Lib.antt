pub mod Forms
pub mod Lists
pub mod Scripts
pub mod Sound
