pub mod Endings
pub mod Exact
pub mod Payments
