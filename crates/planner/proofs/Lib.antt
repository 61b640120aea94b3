pub mod CheckLaws
pub mod ChainLaws
pub mod Puts
pub mod Room
pub mod Listed
pub mod ActWord
