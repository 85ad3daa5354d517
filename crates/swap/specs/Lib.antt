pub mod Written
pub mod Slots
pub mod Counts
pub mod Inside
pub mod SlotAccess
