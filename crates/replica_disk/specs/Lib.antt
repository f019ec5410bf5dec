pub mod Learning
pub mod Loading
pub mod Opening
pub mod Making
