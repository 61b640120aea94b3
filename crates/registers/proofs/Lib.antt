pub mod Bare
pub mod Back
pub mod Sound
