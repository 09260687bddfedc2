pub mod Members
pub mod Reading
pub mod Names
pub mod Added
pub mod Writing
pub mod laws
