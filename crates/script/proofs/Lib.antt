pub mod LineLaws
pub mod RunLaws
pub mod LoopLaws
pub mod StartLaws
