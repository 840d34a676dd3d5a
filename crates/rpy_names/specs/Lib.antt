pub mod Build
pub mod Clauses
pub mod Gives
pub mod Place
pub mod Resolve
pub mod Tables
pub mod Uses
