pub mod Passed
pub mod Taken
