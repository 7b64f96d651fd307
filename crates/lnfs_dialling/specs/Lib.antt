-- The client of the program: what is due of its script, and the link that was dialled.
pub mod Visits
