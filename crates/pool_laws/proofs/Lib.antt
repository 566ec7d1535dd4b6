pub mod IdLists
pub mod PoolIds
pub mod Ids
pub mod Capacity
pub mod Insertions
pub mod Written
pub mod Read
pub mod Singles
