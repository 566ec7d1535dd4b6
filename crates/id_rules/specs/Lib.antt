pub mod Bytes
pub mod SipHash
pub mod Ids
