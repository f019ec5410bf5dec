pub mod Cells
pub mod Marks
pub mod Steps
pub mod Alike
pub mod Reading
pub mod Composing
