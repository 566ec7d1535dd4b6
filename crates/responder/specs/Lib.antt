pub mod Asks
pub mod Refusals
pub mod Machines
