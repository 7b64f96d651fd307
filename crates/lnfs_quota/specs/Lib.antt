pub mod Quota
pub mod Totals
