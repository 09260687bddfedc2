pub mod Cutting
pub mod Rows
pub mod Turns
pub mod Exits
pub mod Documents
pub mod Words
pub mod Places
