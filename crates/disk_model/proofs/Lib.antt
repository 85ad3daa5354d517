mod Names
pub mod Naming
pub mod Moments
pub mod Pages
pub mod Rows
pub mod Pieces
mod Counts
