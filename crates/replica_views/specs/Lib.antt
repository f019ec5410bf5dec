pub mod Ids
pub mod Objects
pub mod Texts
pub mod Views
pub mod Effects
pub mod Made
pub mod Growth
pub mod Laws
