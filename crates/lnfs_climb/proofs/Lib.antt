pub mod Pigeons
pub mod Reached
pub mod Counted
