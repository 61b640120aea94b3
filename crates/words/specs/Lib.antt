pub mod Decoded
pub mod Addresses
pub mod Table6
