pub mod Fine
pub mod Meaning
