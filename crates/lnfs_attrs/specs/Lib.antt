pub mod Parsing
pub mod Bitmaps
pub mod Attributes
pub mod Settable
pub mod Sizes
