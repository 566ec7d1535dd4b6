pub mod Samples
pub mod Examples
pub mod Bytes
pub mod Lists
