-- The laws of header texts: one reading each, and what is built, printed and told reads back.
pub mod Building
pub mod Given
pub mod Bare
pub mod Items
pub mod Lines
pub mod Printing
pub mod Readings
pub mod Spelled
pub mod Verifying
pub mod Told
