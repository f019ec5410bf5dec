pub mod Rows
pub mod ListLemmas
pub mod SeatLemmas
pub mod WorldLemmas
pub mod HandledLemmas
pub mod StepLemmas
pub mod RawLemmas
pub mod LawLemmas
pub mod Readers
pub mod HostileLemmas
mod FedRows
