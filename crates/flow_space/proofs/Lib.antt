-- Lemmas.
pub mod Counted
pub mod Forget
pub mod Graphs
pub mod Hands
pub mod Items
pub mod Layers
pub mod Narrows
pub mod Noded
pub mod Opposites
pub mod Owned
pub mod Parts
pub mod Plain
pub mod Sources
