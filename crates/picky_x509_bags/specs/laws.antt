-- What the laws of attributes rest on.
pub mod Attribute
pub mod Lists
