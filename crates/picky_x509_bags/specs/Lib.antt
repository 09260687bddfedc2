pub mod Attribute
pub mod Certificate
pub mod Contents
pub mod EncryptedKey
pub mod Secret
pub mod laws
