pub mod Cuts
pub mod Views
pub mod Gives
