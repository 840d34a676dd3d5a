pub mod Words
pub mod Settles
