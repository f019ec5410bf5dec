pub mod Gaps
pub mod Carried
pub mod Walk
