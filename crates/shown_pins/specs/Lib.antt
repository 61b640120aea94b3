pub mod PackedPins
