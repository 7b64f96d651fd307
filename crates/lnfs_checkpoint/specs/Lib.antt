pub mod Checkpoint
pub mod Made
pub mod Takes
pub mod Judged
pub mod Resumed
pub mod Telling
