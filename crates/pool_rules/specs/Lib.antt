pub mod Pools
pub mod Snapshots
pub mod Capacity
pub mod PoolFile
