pub mod Machine
pub mod Meaning
pub mod Roots
pub mod Moments
