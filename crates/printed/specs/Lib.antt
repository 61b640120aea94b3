pub mod Lines
pub mod Format
pub mod Script
pub mod Ran
pub mod Run
pub mod Limits
pub mod ByteByByte
pub mod Examples
