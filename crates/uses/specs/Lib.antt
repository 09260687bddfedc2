pub mod Accepted
pub mod Dates
pub mod Encodings
pub mod KeySets
pub mod Requests
pub mod Seals
