pub mod FrameLemmas
pub mod ChainLemmas
pub mod Calls
pub mod Made
