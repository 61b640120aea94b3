pub mod Room
pub mod Texts
pub mod Digits
pub mod Bench
