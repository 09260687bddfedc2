pub mod Refusals
pub mod Causes
pub mod Text
pub mod Sums
pub mod Rows
pub mod laws
