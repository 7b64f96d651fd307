pub mod Exchanging
pub mod Dialogues
pub mod Driving
pub mod Goings
