pub mod Books
pub mod Changes
pub mod Entries
pub mod Noted
pub mod Outcomes
pub mod Settling
