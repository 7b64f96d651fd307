pub mod Grammar
pub mod Texts
pub mod Fits
pub mod Whole
pub mod Lasts
pub mod Parsing
