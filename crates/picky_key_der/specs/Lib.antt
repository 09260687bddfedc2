pub mod Ecdsa
pub mod Errors
pub mod Grammar
pub mod Identifiers
pub mod Kinds
pub mod Public
pub mod Writing
pub mod laws
