pub mod Act
pub mod Potential
pub mod Planner
pub mod Lists
pub mod Check
pub mod Bench
