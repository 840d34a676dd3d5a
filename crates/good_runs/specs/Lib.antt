pub mod Good
pub mod Room
