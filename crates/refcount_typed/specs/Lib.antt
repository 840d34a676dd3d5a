pub mod Heads
pub mod Leads
pub mod Numbered
