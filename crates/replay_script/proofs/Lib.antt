pub mod Answering
pub mod ArgumentGrammar
pub mod EscapeLemmas
pub mod LineGrammar
pub mod Numerals
pub mod Parts
pub mod QuoteCuts
pub mod Quoted
pub mod Reading
pub mod Repeated
mod Rows
pub mod Spaces
pub mod TextGrammar
