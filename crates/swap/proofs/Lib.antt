pub mod Counting
pub mod Stack
pub mod Written
pub mod Sound
