pub mod Stops
pub mod Daemons
pub mod Fetching
pub mod Making
pub mod Serving
pub mod Following
