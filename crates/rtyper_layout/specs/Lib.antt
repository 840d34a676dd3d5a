pub mod Dicts
pub mod Families
pub mod Kinds
pub mod Layout
pub mod Sites
pub mod Types
