pub mod Bench
pub mod Wires
pub mod Own
