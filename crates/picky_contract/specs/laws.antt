-- What holds of the words of contracts.
pub mod Cuts
pub mod Growing
pub mod Pairs
pub mod Tables
