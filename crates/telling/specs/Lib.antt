pub mod Asked
pub mod Lying
pub mod Pages
pub mod Questions
pub mod Searches
