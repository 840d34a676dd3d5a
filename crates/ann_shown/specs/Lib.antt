pub mod Functions
pub mod Place
pub mod Operands
pub mod Told
