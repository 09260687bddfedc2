pub mod Moment
pub mod DateText
pub mod Reading
pub mod Civil
pub mod Faults
