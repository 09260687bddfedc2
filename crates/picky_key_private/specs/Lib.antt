pub mod Forms
pub mod Grammar
pub mod Parts
pub mod Private
pub mod Reading
pub mod Same
pub mod laws
