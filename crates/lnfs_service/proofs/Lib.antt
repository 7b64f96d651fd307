pub mod Dealing
pub mod Sessions
pub mod Handing
pub mod Accepting
pub mod Lines
pub mod Telling
pub mod Offering
