-- What laws of annotations take of the graphs of a plan, passed on to those who stand on these laws.
pub use Rattle.ann_planned.proofs.Planning.{premises}
