pub mod Displays
pub mod Items
pub mod Lowering
pub mod Methods
pub mod Operands
