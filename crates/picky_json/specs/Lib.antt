pub mod Tree
pub mod Object
pub mod Text
pub mod laws
