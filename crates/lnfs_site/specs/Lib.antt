pub mod Site
pub mod Labels
pub mod Example
pub mod Reading
