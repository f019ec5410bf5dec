pub mod Answers
pub mod Path
pub mod Ids
pub mod Elements
