pub mod Asking
pub mod Behind
pub mod Coming
pub mod Giving
pub mod Less
pub mod Operands
