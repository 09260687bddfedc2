pub mod Bits
pub mod Integer
pub mod Lends
