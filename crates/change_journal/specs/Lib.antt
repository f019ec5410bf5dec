pub mod Steps
pub mod Faults
pub mod Journal
pub mod Opening
pub mod Held
