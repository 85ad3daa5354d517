mod Names
pub mod Looks
pub mod Leaves
pub mod Numbers
pub mod Keeping
pub mod Noting
pub mod Walks
