pub mod Held
pub mod Meaning
pub mod Places
pub mod Pure
pub mod Size
pub mod Value
