pub mod Gf32
pub mod LinearMaps
pub mod Windows
