-- Recordings of traffic.
pub mod Recording
pub mod Parts
pub mod Texts
pub mod Answers
pub mod Generated
pub mod Counts
pub mod Stages
pub mod Pieces
