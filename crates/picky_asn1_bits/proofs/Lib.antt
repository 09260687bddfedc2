pub mod LowBits
pub mod Numbers
pub mod OneBit
pub mod Orders
pub mod Resize
pub mod Shortest
