pub mod Calls
pub mod MemSource
pub mod MemSink
pub mod DiskHistory
pub mod DiskTold
pub mod SureDisk
pub mod MemDisk
pub mod Replayed
