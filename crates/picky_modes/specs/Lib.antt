pub mod Blocks
pub mod Cbc
pub mod KeyWrap
pub mod Pbes1
