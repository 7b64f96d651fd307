pub mod OneClient
pub mod Written
pub mod SlotLaws
