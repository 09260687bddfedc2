pub mod Jwk
pub mod Others
pub mod Views
pub mod Trees
pub mod Refusals
pub mod laws
