pub mod Hash
pub mod Hasher
pub mod Hmac
pub mod Keyed
pub mod Parts
pub mod Pbkdf2
pub mod Pkcs12Kdf
pub mod ConcatKdf
