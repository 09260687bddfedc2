-- The laws of names.
pub mod Names
