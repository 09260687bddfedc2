pub mod Fields
pub mod Visible
pub mod Spans
