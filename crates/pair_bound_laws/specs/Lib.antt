pub mod Costs
pub mod Keeping
