pub mod Records
pub mod Journals
pub mod Goings
pub mod Pairs
pub mod Dealt
pub mod Seats
pub mod Shares
