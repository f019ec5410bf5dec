pub mod ChangeLemmas
pub mod QueueLemmas
pub mod Rows
