pub mod Words
pub mod Below
pub mod Judging
pub mod Bits
pub mod Masks
pub mod Within
pub mod Tables
pub mod Sizes
