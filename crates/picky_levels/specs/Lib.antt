pub mod Nests
pub mod laws
