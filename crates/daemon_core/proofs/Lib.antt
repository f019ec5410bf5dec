mod Rows
pub mod FileLemmas
pub mod LinkLemmas
pub mod MapLemmas
pub mod StepLemmas
pub mod MessageLemmas
pub mod ServeLemmas
pub mod RefusalLemmas
pub mod SendingLemmas
