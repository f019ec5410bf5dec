pub mod JsonLemmas
pub mod WrittenLemmas
pub mod ValueLemmas
pub mod AgainLemmas
pub mod Rows
mod CharacterLemmas
