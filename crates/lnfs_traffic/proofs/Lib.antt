-- Lemmas.
pub mod Cutting
pub mod Fronts
pub mod Whole
pub mod Put
pub mod Counting
pub mod Lengths
pub mod Making
pub mod Rows
pub mod Called
pub mod Steady
pub mod Few
pub mod Fed
