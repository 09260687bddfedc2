pub mod Times
pub mod laws
