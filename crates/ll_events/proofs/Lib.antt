pub mod Costs
pub mod Orders
pub mod Rows
pub mod Stepping
pub mod Telling
