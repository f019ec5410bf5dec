pub mod Contents
pub mod Calls
pub mod Appends
pub mod Trails
pub mod Opens
pub mod Opened
pub mod Holds
pub mod Runs
