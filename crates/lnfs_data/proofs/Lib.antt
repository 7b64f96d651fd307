pub mod SetOnce
pub mod Settled
pub mod InWorlds
