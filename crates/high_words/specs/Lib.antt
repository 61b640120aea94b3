pub mod HighWords
pub mod LowWords
