pub mod Cutting
pub mod Modes
pub mod Naming
pub mod NewObjects
pub mod SharedMemory
pub mod Truncating
