pub mod Ops
pub mod Lists
pub mod Fields
pub mod Elements
pub mod Numbered
