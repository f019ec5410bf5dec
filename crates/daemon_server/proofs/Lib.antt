pub mod StepLemmas
pub mod EditLemmas
pub mod ConnectedLemmas
pub mod ServingLemmas
pub mod DaemonLemmas
