pub mod Writing
pub mod Staying
pub mod Doing
pub mod Calling
pub mod Reading
pub mod Telling
