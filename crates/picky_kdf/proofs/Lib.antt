pub mod Sizes
pub mod Keys
pub mod Sums
pub mod Joins
pub mod Numbers
pub mod Blocks
pub mod Cycles
pub mod Rounds
