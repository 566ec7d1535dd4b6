pub mod AllSums
pub mod Both
