pub mod Cuts
pub mod Compared
pub mod OneFinding
pub mod Founds
pub mod Known
pub mod Answered
pub mod Filled
