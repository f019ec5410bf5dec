pub mod Ids
pub mod DirectoryView
