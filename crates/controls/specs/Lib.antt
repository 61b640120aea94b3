pub mod Controls
pub mod Config
pub mod Widths
