pub mod Encrypted
pub mod Mac
pub mod Pfx
