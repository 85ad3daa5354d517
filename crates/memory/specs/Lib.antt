pub mod Lines
pub mod Kept
pub mod Lending
pub mod Notes
pub mod Walks
pub mod SetPlace
