pub mod Nodes
pub mod Chains
pub mod Sets
pub mod CacheTable
pub mod Inside
pub mod Gathering
