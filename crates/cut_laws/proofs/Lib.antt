pub mod Cutting
pub mod Moving
