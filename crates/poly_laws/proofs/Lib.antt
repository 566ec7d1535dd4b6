pub mod Elements
pub mod Sums
pub mod Products
pub mod Remainders
pub mod Division
pub mod Squares
pub mod Values
pub mod Roots
