mod RangeEnds
pub mod OwnRows
mod BoundLocks
mod BesideLocks
