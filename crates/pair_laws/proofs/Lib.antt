pub mod Growing
pub mod Effects
