pub mod Answers
pub mod Values
pub mod Heads
pub mod Parts
