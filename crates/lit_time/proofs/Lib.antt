pub mod Counts
pub mod Ones
pub mod Weights
pub mod Closing
pub mod Fitting
pub mod Limited
pub mod Bench
