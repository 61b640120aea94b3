pub mod Typed
pub mod RowLaws
