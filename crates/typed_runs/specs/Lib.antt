pub mod Graphs
pub mod Programs
