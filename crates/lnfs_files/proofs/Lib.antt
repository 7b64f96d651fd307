pub mod Stages
pub mod StateIds
pub mod NamedOpens
pub mod Uses
pub mod Charged
pub mod WriteOn
mod Raising
mod RaiseAsked
mod Labels
mod Sizes
mod SetAttrs
mod Writes
pub mod Ends
pub mod FileReads
pub mod Passing
pub mod Opens
pub mod Openable
pub mod Makes
pub mod Givens
pub mod Leads
pub mod Absents
pub mod OpenFiles
pub mod Listed
