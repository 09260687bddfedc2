pub mod TextMap
pub mod Entry
pub mod Algorithms
pub mod Taken
pub mod Ring
pub mod Refusals
pub mod Seen
pub mod laws
