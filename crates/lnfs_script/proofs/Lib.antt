pub mod Ends
pub mod Steps
pub mod Said
pub mod Named
