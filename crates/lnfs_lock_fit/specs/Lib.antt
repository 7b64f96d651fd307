pub mod RowsOf
pub mod Parts
pub mod Keys
