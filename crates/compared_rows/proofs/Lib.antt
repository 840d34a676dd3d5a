pub mod Advancing
pub mod Equality
pub mod Orders
pub mod Ranging
pub mod Telling
pub mod Truths
