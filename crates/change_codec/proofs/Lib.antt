pub mod EncodingLaws
pub mod RisingNames
pub mod WellFormedLaws
pub mod Written
pub mod Readings
mod Rows
