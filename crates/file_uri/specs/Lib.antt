pub mod FileUrl
pub mod Base
pub mod PathFaults
pub mod PathOf
pub mod UriOf
pub mod PlainUri
pub mod Laws
