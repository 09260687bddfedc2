-- What the laws of algorithms rest on.
pub mod Identifiers
pub mod Pbkdf2
