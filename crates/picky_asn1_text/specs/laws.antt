-- What the laws of the traits rest on.
pub mod Ascii
