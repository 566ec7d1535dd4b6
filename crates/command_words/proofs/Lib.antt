pub mod Numbers
pub mod Salts
pub mod Forms
