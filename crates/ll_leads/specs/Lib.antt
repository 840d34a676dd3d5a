pub mod Bounded
pub mod Effect
pub mod Lifted
pub mod Memory
pub mod Path
pub mod Weight
