pub mod Links
pub mod Shelves
