pub mod Places
pub mod Edits
pub mod Changes
pub mod Writing
pub mod Laws
