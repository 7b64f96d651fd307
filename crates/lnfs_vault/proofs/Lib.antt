pub mod Keeping
pub mod Seals
pub mod Retrying
pub mod Asking
pub mod Bodies
pub mod Calls
