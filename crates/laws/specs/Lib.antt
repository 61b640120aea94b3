pub mod DriverLaws
pub mod ChainLaws
pub mod SlippedAccess
