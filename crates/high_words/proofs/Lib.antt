pub mod HighLaws
pub mod LowLaws
