pub mod Lasts
pub mod Told
pub mod World
