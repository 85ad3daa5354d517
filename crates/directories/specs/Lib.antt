pub mod Kinds
pub mod Entries
pub mod Homes
pub mod Layouts
pub mod Pieces
pub mod Checks
pub mod Laws
