pub mod Counting
pub mod Trails
pub mod Names
pub mod Ways
pub mod Numbers
