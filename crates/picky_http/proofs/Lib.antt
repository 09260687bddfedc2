pub mod Building
pub mod Entries
pub mod Numbered
pub mod Printed
pub mod Setting
pub mod Splits
pub mod Values
pub mod Writing
