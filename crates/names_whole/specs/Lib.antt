pub mod Classes
pub mod Clauses
pub mod Functions
pub mod Program
pub mod Sites
pub mod Uses
pub mod Whole
