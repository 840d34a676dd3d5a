pub mod Ops
pub mod Same
