pub mod OneWord
pub mod Cutting
pub mod ManyWords
pub mod Variants
pub mod Versions
pub mod Checked
