-- The dialogue of a client with a server: what it sends and shows, by the records that come.
pub mod Texts
pub mod Talk
pub mod Fits
pub mod Exchange
pub mod Talks
