pub mod Hex
pub mod Tabled
pub mod Segments
