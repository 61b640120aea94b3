pub mod Half
pub mod Part
