pub mod LookBack
pub mod Stops
pub mod NoFurther
pub mod ByteBy
pub mod Examples
