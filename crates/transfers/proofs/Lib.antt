pub mod StrapLaws
pub mod BusLaws
