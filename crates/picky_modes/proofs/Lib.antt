pub mod BlockLemmas
pub mod Chains
pub mod Padding
pub mod Decryption
pub mod Registers
pub mod Steps
pub mod Wrapped
pub mod Determined
