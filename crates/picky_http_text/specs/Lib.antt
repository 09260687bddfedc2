pub mod Items
pub mod Places
pub mod Clean
pub mod Numbers
pub mod Progress
pub mod laws
