-- Lemmas for the law, and for growing.
pub mod Rowing
pub mod Asking
pub mod Needing
