-- The command that judges recorded replies: what is due of it.
pub mod Audits
