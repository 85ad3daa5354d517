pub mod Entry
pub mod Walk
