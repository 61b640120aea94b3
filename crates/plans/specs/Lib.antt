pub mod Words
pub mod Lists
pub mod Check
pub mod Act
pub mod Least
pub mod Plan
pub mod Shortest
pub mod Examples
