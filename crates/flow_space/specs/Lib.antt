pub mod Owned
pub mod Placed
pub mod Trees
