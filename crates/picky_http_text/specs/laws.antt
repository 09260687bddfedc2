-- The laws of a header text's pieces, values, numbers and places.
pub mod Pieces
pub mod Values
pub mod Numbers
pub mod Places
