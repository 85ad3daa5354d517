pub mod Bytes
pub mod Session
pub mod Progress
pub mod Trace
pub mod Starting
