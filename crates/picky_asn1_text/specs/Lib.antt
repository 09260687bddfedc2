pub mod CharSets
pub mod Bmp
pub mod Print
pub mod Refusals
pub mod laws
