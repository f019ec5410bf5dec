pub mod Base
pub mod World
pub mod Lines
pub mod Handling
pub mod Playing
pub mod RawFrames
pub mod Step
pub mod Laws
