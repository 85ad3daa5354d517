pub mod Frames
pub mod Walks
pub mod Slots
pub mod Pages
pub mod Tables
pub mod Machines
pub mod Files
