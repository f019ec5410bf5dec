pub mod Streams
pub mod Hosts
