-- The laws of trees.
pub mod Trees
