pub mod Steps
pub mod LastNumbers
pub mod Puts
pub mod Splits
pub mod Spellings
pub mod WrittenAgain
pub mod Exact
pub mod Alone
