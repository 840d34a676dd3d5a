pub mod Faults
pub mod Annotation
pub mod Gives
pub mod Leaves
pub mod Closed
pub mod Examples
