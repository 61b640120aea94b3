pub mod Widths
pub mod Seen
pub mod Own
pub mod Found
pub mod OneByOne
