-- Rows of locks: what they stand for, and what bounds them.
pub mod Told
pub mod Bounds
