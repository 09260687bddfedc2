pub mod TextMaps
pub mod Causes
pub mod Keys
