-- The laws of headers: one reading each, and what is written reads back.
pub mod Once
pub mod Written
pub mod Copies
pub mod Others
