pub mod Buffers
pub mod Partial
pub mod Records
