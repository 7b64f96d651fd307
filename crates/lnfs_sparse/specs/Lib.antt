pub mod Answers
pub mod Made
pub mod Files
pub mod Deciding
pub mod Cloning
