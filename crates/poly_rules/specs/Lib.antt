pub mod Polynomials
pub mod Remainders
pub mod Recurrences
pub mod Roots
