pub mod FirstWorlds
pub mod FirstLines
pub mod Spelled
pub mod Readings
