mod Names
pub mod Versions
pub mod Old
pub mod Found
pub mod Counting
pub mod Tables
pub mod Copies
pub mod Whole
pub mod Ends
