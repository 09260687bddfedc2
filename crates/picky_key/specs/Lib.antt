pub mod Family
pub mod Signatures
pub mod SignatureForms
pub mod Exchange
pub mod Words
