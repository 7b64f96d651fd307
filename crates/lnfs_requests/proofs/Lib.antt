pub mod Texts
pub mod Again
