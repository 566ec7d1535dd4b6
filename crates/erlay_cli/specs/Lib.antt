pub mod Exchanges
pub mod Sights
pub mod Courses
pub mod Halts
pub mod Links
pub mod Runs
