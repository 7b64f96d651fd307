pub mod Counting
pub mod Kept
pub mod Bounded
mod FewBytes
pub mod FromHomes
pub mod FromRows
