pub mod Sums
pub mod RowLists
pub mod Factors
pub mod Blocks
