pub mod Changes
pub mod Refusals
pub mod Parts
pub mod Room
pub mod Resizing
