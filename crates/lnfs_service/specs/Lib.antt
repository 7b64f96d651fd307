-- The service of links: what it came to, what is due of it, and the links that were dealt and handed back.
pub mod Session
pub mod Handed
pub mod Links
pub mod Serves
