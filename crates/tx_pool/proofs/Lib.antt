pub mod Entries
pub mod Putting
pub mod Numbers
pub mod Reading
pub mod Headings
pub mod Texts
pub mod Folding
