pub mod Keys
pub mod Made
pub mod Public
pub mod Refusals
pub mod Back
pub mod laws
