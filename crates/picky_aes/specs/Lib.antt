pub mod Field
pub mod Cipher
pub mod Words
pub mod Expanded
