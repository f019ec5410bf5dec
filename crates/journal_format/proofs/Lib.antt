pub mod PartLaws
pub mod EncodingLaws
pub mod Loops
pub mod ImageLaws
pub mod Fits
pub mod Unique
