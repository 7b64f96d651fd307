pub mod Bitmap
pub mod Body
pub mod Equality
pub mod Label
pub mod Levels
pub mod Making
pub mod Refused
pub mod Same
