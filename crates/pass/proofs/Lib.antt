pub mod Masks
pub mod WidthLaws
pub mod SeenLaws
pub mod OwnLaws
pub mod FoundLaws
pub mod StepLaws
pub mod AccessLaws
pub mod Typed
