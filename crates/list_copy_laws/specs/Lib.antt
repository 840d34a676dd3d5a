pub mod Among
pub mod Done
pub mod Extended
pub mod Inserted
pub mod Joined
