pub mod Values
pub mod Heaps
pub mod Laws
