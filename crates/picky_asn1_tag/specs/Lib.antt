pub mod Tag
pub mod Hex
pub mod Default
