pub mod Bag
pub mod Kind
pub mod Levels
pub mod Steps
pub mod laws
