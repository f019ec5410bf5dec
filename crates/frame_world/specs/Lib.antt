pub mod Seats
pub mod Lines
pub mod Tie
pub mod Serving
pub mod Laws
