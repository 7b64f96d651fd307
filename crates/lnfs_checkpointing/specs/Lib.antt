-- The commands that write a checkpoint and go on from one: what is due of them.
pub mod Checkpoints
pub mod Servings
