pub mod Flat
pub mod Formatted
pub mod Hardware
pub mod Lives
pub mod Upgraded
