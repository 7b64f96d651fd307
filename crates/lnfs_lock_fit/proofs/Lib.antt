pub mod Alone
pub mod Ended
pub mod Makes
pub mod Opened
pub mod OfLocks
pub mod Sums
