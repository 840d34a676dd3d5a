pub mod Does
pub mod Points
pub mod Runs
pub mod States
