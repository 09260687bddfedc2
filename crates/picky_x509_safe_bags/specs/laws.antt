-- The laws of bags.
pub mod Alike
pub mod Bag
pub mod Encodings
pub mod Grows
pub mod Levels
