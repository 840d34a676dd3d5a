pub mod Suffices
pub mod Told
