pub mod Homes
pub mod Sparing
pub mod WaySteps
