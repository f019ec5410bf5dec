pub mod WantedLemmas
pub mod HandLemmas
mod SameLemmas
