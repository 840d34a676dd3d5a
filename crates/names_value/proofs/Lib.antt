mod Rows
pub mod Contents
pub mod Fitting
pub mod Lasts
pub mod Rounds
