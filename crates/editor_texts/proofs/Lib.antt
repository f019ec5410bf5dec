mod Steps
pub mod DeltaScalars
pub mod ComposedScalars
mod FormScalars
pub mod MessageScalars
pub mod EditLemmas
