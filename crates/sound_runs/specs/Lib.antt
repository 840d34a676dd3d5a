pub mod Graphs
pub mod States
pub mod Runs
pub mod Start
pub mod Closed
