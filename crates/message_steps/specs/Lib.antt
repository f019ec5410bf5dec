pub mod Asking
pub mod Editing
pub mod Following
pub mod Laws
