pub mod Lines
pub mod Paths
pub mod Fits
pub mod Forms
pub mod Script
