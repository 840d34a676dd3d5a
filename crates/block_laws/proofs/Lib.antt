pub mod Adding
pub mod Branching
pub mod Converting
pub mod Escaping
pub mod Exiting
pub mod Operating
pub mod Passing
pub mod Variables
