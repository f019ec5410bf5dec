pub mod StepLemmas
pub mod LinkLemmas
pub mod OpenLemmas
pub mod EditLemmas
pub mod ClashLemmas
