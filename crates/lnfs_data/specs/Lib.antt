pub mod Charges
pub mod Worlds
