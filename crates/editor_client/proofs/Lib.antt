pub mod TypingLemmas
pub mod HearingLemmas
pub mod Rows
