pub mod LinearMaps
pub mod MapTables
pub mod OddPowers
pub mod PowerSums
pub mod Reductions
pub mod Windows
