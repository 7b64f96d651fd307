pub mod Rules
pub mod Questions
