pub mod Causes
pub mod Moves
pub mod Fakes
pub mod Told
pub mod WireCalls
pub mod ShelfCalls
pub mod LinkFakes
