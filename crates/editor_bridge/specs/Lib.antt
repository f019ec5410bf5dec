pub mod Link
pub mod Faults
pub mod Frames
pub mod Carrying
