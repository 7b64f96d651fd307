pub mod Sizes
pub mod Records
