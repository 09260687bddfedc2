-- The laws of the conversion of keys: both ways, back to the same key.
pub mod Public
pub mod Back
