pub mod Lines
pub mod Grammar
pub mod Texts
pub mod Words
pub mod Names
