pub mod OneDriver
pub mod Column
