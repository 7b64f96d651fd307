pub mod Values
pub mod Parsing
pub mod Tests
