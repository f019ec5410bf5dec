pub mod Change
pub mod Encoding
pub mod Read
pub mod WellFormed
pub mod Views
pub mod Names
