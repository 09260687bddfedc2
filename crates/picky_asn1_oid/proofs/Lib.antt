pub mod Arcs
pub mod Determined
pub mod Dots
pub mod Septets
pub mod Sequences
