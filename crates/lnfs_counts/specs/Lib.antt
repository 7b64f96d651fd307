pub mod Levels
pub mod Counters
pub mod Counted
