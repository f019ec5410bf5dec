pub mod IdLemmas
pub mod GreatestLemmas
mod MakeLemmas
pub mod WinnerLemmas
