-- The laws of members: read once, and what is written reads back.
pub mod Once
pub mod Stops
pub mod Lists
pub mod Pairs
pub mod Written
pub mod Shallow
pub mod Texts
