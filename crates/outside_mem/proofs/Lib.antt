pub mod DiskSteps
pub mod MemSteps
pub mod ReplaySteps
mod Rows
