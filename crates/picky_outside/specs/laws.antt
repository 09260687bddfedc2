-- The laws of what is taken and given piece by piece.
pub mod Adding
