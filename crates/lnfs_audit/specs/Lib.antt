pub mod Replies
pub mod Findings
pub mod Found
pub mod Places
pub mod Levels
pub mod Filled
