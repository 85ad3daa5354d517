pub mod Specs
pub mod Copies
pub mod FilePages
pub mod Asking
pub mod Outcomes
