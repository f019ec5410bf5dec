pub mod Parts
pub mod Encoding
pub mod Image
pub mod Read
pub mod Progress
