pub mod Agreeing
pub mod Lives
pub mod Flat
pub mod NewKinds
pub mod NewStores
pub mod Samples
