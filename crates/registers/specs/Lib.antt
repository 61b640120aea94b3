pub mod Record
pub mod Sound
pub mod Registers
pub mod WrittenAndRead
pub mod ReadBack
