-- The laws of rings.
pub mod Defaults
pub mod Rings
