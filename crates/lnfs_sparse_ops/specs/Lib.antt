pub mod Arguments
pub mod Regions
pub mod Allocate
pub mod Deallocate
pub mod Seek
pub mod Clone
pub mod Outcome
