pub mod Editor
pub mod Requests
pub mod Hearing
pub mod Faults
pub mod Laws
