pub mod Graph
pub mod Holding
pub mod Items
pub mod Joining
pub mod Joins
pub mod Listed
pub mod Texts
