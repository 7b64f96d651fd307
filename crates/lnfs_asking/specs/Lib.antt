pub mod Labels
pub mod Sending
