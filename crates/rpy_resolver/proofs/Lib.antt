pub mod Counts
pub mod Forms
pub mod Sources
pub mod Statements
pub mod Listed
pub mod Sizes
pub mod Bodies
