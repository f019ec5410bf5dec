pub mod RecordLemmas
mod Rows
mod EncodedLemmas
mod DiskLemmas
