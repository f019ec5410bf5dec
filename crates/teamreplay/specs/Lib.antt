pub mod Ends
pub mod Below
pub mod Standard
