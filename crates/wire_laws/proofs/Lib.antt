pub mod Parts
pub mod Readers
pub mod Messages
pub mod Sound
pub mod Taken
pub mod TakenLists
pub mod Said
