pub mod Header
pub mod Others
pub mod Views
pub mod Trees
pub mod laws
