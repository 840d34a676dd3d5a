pub mod Keys
pub mod Heaps
pub mod Running
pub mod Beginning
