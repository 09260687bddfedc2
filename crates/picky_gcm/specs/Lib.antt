pub mod Polynomial
pub mod Table
pub mod Hash
pub mod Counter
pub mod Gcm
