pub mod Held
pub mod Places
pub mod Quiet
pub mod Roots
