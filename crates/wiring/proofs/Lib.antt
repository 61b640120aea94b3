pub mod Wired
pub mod Packing
pub mod Bytes
