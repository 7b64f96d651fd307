mod StateIds
pub mod Deciding
