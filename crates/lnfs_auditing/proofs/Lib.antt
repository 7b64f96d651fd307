pub mod Fitting
pub mod Auditing
