pub mod BytesLaws
pub mod OnWire
pub mod Turns
pub mod CallLaws
