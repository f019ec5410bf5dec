pub mod Holding
pub mod Making
pub mod Shown
pub mod Bounds
