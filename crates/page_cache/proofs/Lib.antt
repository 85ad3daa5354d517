pub mod NodeLemmas
pub mod ChainLemmas
pub mod SetLemmas
pub mod TableLemmas
pub mod Changes
pub mod GatherLemmas
pub mod CountLemmas
pub mod ExactLemmas
