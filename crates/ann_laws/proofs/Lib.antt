pub mod Pairs
pub mod Smaller
pub mod Numbers
pub mod Equal
pub mod Containers
pub mod Instances
pub mod Calls
pub mod Whole
