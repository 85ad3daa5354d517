pub mod Entry
pub mod Leaves
pub mod Tree
pub mod Change
pub mod Places
