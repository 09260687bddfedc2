pub mod Pairs
pub mod Printing
pub mod Plane
pub mod Comparing
