pub mod Lasts
pub mod Serving
pub mod Runs
pub mod Taken
pub mod ParentNumbers
pub mod Making
pub mod OneVerdict
