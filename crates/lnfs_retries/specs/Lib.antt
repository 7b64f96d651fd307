pub mod Packets
pub mod Schedule
