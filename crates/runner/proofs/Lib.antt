pub mod Bytes
pub mod Lines
pub mod Session
pub mod Progress
pub mod Ends
pub mod Trace
