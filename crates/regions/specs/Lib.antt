pub mod Run
pub mod RunList
pub mod Search
pub mod Permission
pub mod Remaps
