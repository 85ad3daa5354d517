pub mod Steps
pub mod Shares
pub mod TablesForCopies
pub mod ChildShares
pub mod Changes
pub mod Lifetimes
