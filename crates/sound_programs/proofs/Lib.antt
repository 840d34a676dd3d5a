pub mod Fitting
pub mod Counting
pub mod Seeing
pub mod Settling
pub mod Telling
pub mod Texting
