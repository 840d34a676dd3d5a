pub mod Alike
pub mod Helpers
pub mod Passes
pub mod Programs
pub mod Smalls
pub mod WritingBlocks
pub mod WritingLinks
