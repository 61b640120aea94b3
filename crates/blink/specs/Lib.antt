pub mod Blink
pub mod Part
pub mod Phases
pub mod PartDigits
