pub mod State
pub mod Outcome
pub mod Wanting
pub mod Serving
pub mod Outputs
pub mod Sending
pub mod Laws
