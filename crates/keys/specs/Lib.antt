pub mod Keys
pub mod KeyByKey
pub mod PackedKeys
