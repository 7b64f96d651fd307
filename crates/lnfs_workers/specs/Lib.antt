pub mod Transcripts
pub mod Lines
pub mod Turns
pub mod Served
pub mod Pairs
pub mod Dealt
pub mod Links
pub mod Told
