pub mod Decimals
pub mod Digits
pub mod Fronts
pub mod PathParts
pub mod Splits
