-- Calls as they are written.
pub mod CallTexts
