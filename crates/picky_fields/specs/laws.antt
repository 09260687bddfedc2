-- The laws of fields.
pub mod Choice
pub mod Copies
pub mod Depths
pub mod Either
pub mod Fields
pub mod Forms
pub mod Heights
pub mod Identifiers
pub mod Known
pub mod Levels
pub mod Names
pub mod Optional
pub mod Plain
pub mod SeenAgain
pub mod Writing
