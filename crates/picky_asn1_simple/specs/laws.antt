-- What the laws of the simple wrappers rest on.
pub mod Bits
pub mod Sets
