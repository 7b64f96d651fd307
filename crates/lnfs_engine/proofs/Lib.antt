pub mod Heads
pub mod Leaving
pub mod Own
pub mod Acting
pub mod Sequencing
pub mod Telling
pub mod OnNodes
pub mod Operating
pub mod Staying
pub mod Running
pub mod Serving
pub mod OnNames
pub mod FirstBounds
pub mod Counting
pub mod NamesCounts
pub mod Told
mod Items
