pub mod Cuts
pub mod Steps
pub mod Drops
pub mod Lengths
pub mod Resizing
