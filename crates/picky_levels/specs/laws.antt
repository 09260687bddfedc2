-- The laws of records that hold items of their own type.
pub mod Nests
pub mod Steps
