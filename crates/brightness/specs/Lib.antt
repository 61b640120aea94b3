pub mod Dark
pub mod Brightness
pub mod Tables
