pub mod Lesser
pub mod Arities
pub mod Methods
pub mod Operands
pub mod Calls
pub mod Cells
pub mod Shown
pub mod Whole
