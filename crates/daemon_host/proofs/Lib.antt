pub mod ReadingLemmas
pub mod HostLemmas
pub mod HeardLemmas
