pub mod Alike
pub mod Announcing
pub mod Bringing
pub mod Causes
pub mod Ending
pub mod Filling
pub mod Gaining
