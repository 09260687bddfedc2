-- The laws of private keys.
pub mod Forms
pub mod Grammar
pub mod Reading
pub mod Same
