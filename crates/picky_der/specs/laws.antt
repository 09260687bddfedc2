-- What the laws of the types rest on.
pub mod Depth
pub mod Headers
pub mod Identifier
pub mod Lengths
pub mod Natural
pub mod Plain
pub mod Prefixes
pub mod Primitives
pub mod Raw
pub mod Steps
pub mod Strings
pub mod Whole
