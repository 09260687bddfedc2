pub mod Enclosed
pub mod Implicit
pub mod Lists
pub mod Optional
pub mod Rows
pub mod laws
