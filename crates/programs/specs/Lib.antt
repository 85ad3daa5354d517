pub mod Specs
pub mod Faults
pub mod Showing
pub mod Disks
pub mod Running
