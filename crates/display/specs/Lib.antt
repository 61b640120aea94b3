pub mod Cathode
pub mod Pins
pub mod ByTable
pub mod OwnCathode
pub mod Examples
