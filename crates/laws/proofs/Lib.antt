pub mod Laws
pub mod OnChain
pub mod Slipped
