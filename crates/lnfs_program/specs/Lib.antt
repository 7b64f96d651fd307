-- What a run did, against what is due.
pub mod Runs
pub mod Idle
pub mod TwoRuns
