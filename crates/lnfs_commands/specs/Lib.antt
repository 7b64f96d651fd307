-- What a run that waits for nobody is to write, and how it is to end.
pub mod Words
pub mod Lines
pub mod Events
pub mod Summary
pub mod Commands
pub mod Rules
pub mod Replays
pub mod Runs
