pub mod Pages
pub mod Marks
pub mod Spots
pub mod Stores
pub mod Replacing
pub mod Reading
pub mod Chars
