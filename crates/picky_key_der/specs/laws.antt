-- The laws of keys and signatures.
pub mod Back
pub mod Ecdsa
pub mod Grammar
pub mod Kinds
pub mod Public
pub mod Reading
pub mod Writing
