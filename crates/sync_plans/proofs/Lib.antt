mod Names
mod Changed
mod Possible
pub mod Sized
mod Runs
mod Freed
mod Growth
mod Grown
mod Resized
mod Taken
mod Lent
mod Lost
mod Made
mod Longer
pub mod Theorem
pub mod Untouched
