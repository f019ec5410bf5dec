pub mod Worlds
pub mod Events
pub mod Steps
pub mod Moves
pub mod Tie
pub mod Laws
