pub mod Displayed
pub mod Identical
pub mod Lengths
pub mod There
pub mod Truths
