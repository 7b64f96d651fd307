pub mod Passing
pub mod HeldFiles
pub mod Led
pub mod Cloned
pub mod Unread
