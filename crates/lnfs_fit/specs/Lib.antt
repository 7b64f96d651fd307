pub mod Fits
pub mod Ids
pub mod Keys
pub mod Places
pub mod RowsOf
