pub mod Format
pub mod Fields
pub mod Parts
pub mod Lists
pub mod Values
pub mod Read
