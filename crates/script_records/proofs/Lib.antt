pub mod PartLaws
pub mod SizeLaws
pub mod StartLaws
pub mod RowLaws
pub mod LineLaws
