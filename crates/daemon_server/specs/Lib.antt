pub mod Parts
pub mod Editing
pub mod Following
pub mod Telling
