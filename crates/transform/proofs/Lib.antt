pub mod CarriedLemmas
pub mod WalkLemmas
pub mod MergedLemmas
pub mod GapLemmas
pub mod ChainLemmas
pub mod ListLemmas
pub mod Rows
