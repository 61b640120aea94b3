pub mod Bench
pub mod PoweredUp
pub mod Shift
pub mod Fitted
pub mod Phased
pub mod Sound
pub mod Both
pub mod Families
