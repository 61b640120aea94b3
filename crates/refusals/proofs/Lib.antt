pub mod RefusalLaws
pub mod SizeLaws
