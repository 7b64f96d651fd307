-- The outside of a run as one value, what is due of a run, and what a call did of it.
pub mod Seen
pub mod Writes
pub mod Ending
pub mod Due
pub mod Does
pub mod Contents
