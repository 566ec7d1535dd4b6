pub mod Nodes
pub mod Steps
pub mod Taken
pub mod Fronts
pub mod Loops
