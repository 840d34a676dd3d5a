-- Lemmas for the law and the code.
pub mod Names
pub mod Placing
pub mod Standing
pub mod Telling
pub mod Rowing
