pub mod Words
pub mod Numbers
pub mod Hex
pub mod Paths
