mod Names
pub mod Ways
pub mod EntryBytes
pub mod EmptyBytes
pub mod Bits
pub mod Ends
pub mod Pages
pub mod Setting
pub mod Linking
pub mod Numbers
pub mod Keeping
pub mod Pruning
pub mod Data
pub mod Tight
pub mod Fields
pub mod Places
pub mod Spans
pub mod Needed
