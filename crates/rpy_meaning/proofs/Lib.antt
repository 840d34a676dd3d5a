mod Build
pub mod Closed
pub mod FirstPath
pub mod Bound
pub mod Held
pub mod Lawful
mod Room
pub mod Steady
mod Rows
pub mod Sizes
pub mod Unrolled
