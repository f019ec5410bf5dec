pub mod MapLemmas
pub mod FileLemmas
pub mod LinkLemmas
pub mod SendingLemmas
pub mod TellLemmas
