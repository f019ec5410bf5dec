pub mod History
pub mod State
pub mod Outcome
pub mod Refusing
pub mod Serving
pub mod Outputs
pub mod Sending
pub mod Laws
