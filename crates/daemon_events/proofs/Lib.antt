pub mod HoldingLemmas
mod LinkLemmas
pub mod OpenLemmas
pub mod ConnectionLemmas
pub mod StepLemmas
pub mod MessageLemmas
pub mod ServeLemmas
mod RefusalLemmas
