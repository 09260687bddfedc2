-- What the laws of dates under a tag rest on.
pub mod Equal
pub mod Times
