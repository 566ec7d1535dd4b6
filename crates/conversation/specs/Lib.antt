pub mod Views
pub mod Handled
pub mod Inventories
