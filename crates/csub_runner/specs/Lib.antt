pub mod Core
pub mod Erased
pub mod Heap
pub mod Parts
pub mod Run
pub mod Synced
pub mod Waiting
