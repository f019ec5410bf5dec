pub mod Records
pub mod Store
pub mod Calls
pub mod Disk
