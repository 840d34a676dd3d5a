pub mod Worlds
pub mod Answering
pub mod Lists
pub mod Watches
pub mod Core
pub mod Acts
pub mod Calls
pub mod Parts
pub mod Tests
pub mod Walks
pub mod Forms
pub mod Taken
pub mod Trees
pub mod Stmts
pub mod Top
mod Rows
mod Wide
