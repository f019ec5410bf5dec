pub mod Order
pub mod Worlds
pub mod Serving
pub mod Hearing
