pub mod Walk
pub mod Numbers
pub mod Digits
pub mod PairSteps
pub mod Products
pub mod Hashing
pub mod Stream
pub mod Sealing
