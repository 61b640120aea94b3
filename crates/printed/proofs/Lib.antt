pub mod Limited
pub mod Records
pub mod Bench
