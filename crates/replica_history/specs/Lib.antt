pub mod Deeds
pub mod Groups
pub mod Texts
pub mod Joins
pub mod Standings
pub mod Shown
pub mod Replica
pub mod Counts
