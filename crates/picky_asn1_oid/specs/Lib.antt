pub mod Arcs
pub mod Fault
pub mod Numbers
pub mod Dotted
pub mod laws
