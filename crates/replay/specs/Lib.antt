pub mod Faults
pub mod Script
pub mod Ending
pub mod Table
pub mod Laws
