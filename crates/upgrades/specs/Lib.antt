pub mod Old
pub mod Finding
pub mod NewPool
pub mod Copying
pub mod Upgraded
