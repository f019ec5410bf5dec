pub mod SaidLemmas
pub mod BodyLemmas
