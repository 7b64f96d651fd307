pub mod Keys
pub mod Groups
pub mod Rows
pub mod Indexed
pub mod Asking
pub mod Walks
pub mod Usage
pub mod Makes
