pub mod Bag
pub mod Batch
pub mod Entry
pub mod Identifiers
