pub mod Accepting
pub mod Calling
pub mod Lengths
pub mod Parts
