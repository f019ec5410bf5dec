pub mod ByteLemmas
pub mod PartLemmas
pub mod PlainLemmas
pub mod FileUrlLemmas
pub mod PlainReading
pub mod UriLemmas
pub mod PathLemmas
pub mod BaseLemmas
pub mod TextLemmas
mod Rows
