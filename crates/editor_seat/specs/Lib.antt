pub mod Delivering
pub mod Joining
