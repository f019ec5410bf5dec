pub mod ImageLemmas
pub mod MadeImages
pub mod Moments
pub mod ToldLemmas
