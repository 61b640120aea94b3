pub mod Glyphs
pub mod Masks
pub mod Tables
