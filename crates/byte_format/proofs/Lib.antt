pub mod Lawful
pub mod FieldLaws
pub mod PartLaws
pub mod ListLaws
pub mod ValueLaws
pub mod Loops
pub mod TextTests
