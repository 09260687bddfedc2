-- What the laws of object identifiers rest on.
pub mod Arcs
