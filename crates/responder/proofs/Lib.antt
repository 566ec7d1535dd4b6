pub mod AskFaults
pub mod Portions
pub mod SoundAsks
pub mod Steps
