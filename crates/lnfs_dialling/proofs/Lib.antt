pub mod Scripts
pub mod Dialling
pub mod Visiting
pub mod Ruled
