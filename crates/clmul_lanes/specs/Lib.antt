pub mod Lane32
pub mod OddPowers
pub mod Planes
pub mod Tables
pub mod Fractions
pub mod Rows
pub mod NibbleValues
