pub mod Bytewise
pub mod Keyed
pub mod Sound
pub mod Together
