pub mod Way
pub mod Entries
pub mod Bits
