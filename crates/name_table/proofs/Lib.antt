pub mod RowLemmas
pub mod RowTests
