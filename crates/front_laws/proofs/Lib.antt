pub mod Flat
pub mod Members
