pub mod Asked
pub mod Finding
pub mod Keys
pub mod Listings
pub mod Lookups
pub mod Pairs
