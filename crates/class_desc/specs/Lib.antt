pub mod Line
pub mod Range
pub mod Stores
pub mod Tables
