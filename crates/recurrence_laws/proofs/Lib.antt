pub mod Applied
pub mod Monic
pub mod Massey
pub mod Shortest
pub mod Steps
pub mod Carried
