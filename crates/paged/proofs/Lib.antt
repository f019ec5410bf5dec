pub mod FlatLemmas
pub mod SpotLemmas
pub mod SpliceLemmas
pub mod MarkLemmas
pub mod ReadingLemmas
