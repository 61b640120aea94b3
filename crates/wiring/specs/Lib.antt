pub mod Segments
pub mod Wiring
pub mod Table
pub mod PackedRows
