pub mod ByteLemmas
pub mod FitsLemmas
pub mod WrittenLemmas
pub mod HeadLemmas
pub mod MadeLemmas
pub mod TestLemmas
