-- What the laws of the wrappers rest on.
pub mod Enclosed
pub mod Equal
pub mod Headers
pub mod Implicit
pub mod Lists
pub mod Loops
