-- What the annotation shows that was settled, passed on to those who stand on these laws.
pub use Rattle.ann_settled.specs.Nodes.{is_unreached, is_augmented, gives_value, first_reached, result, op_results, ops_results, blocks_results, graphs_results}
pub use Rattle.ann_settled.specs.Read.{element_at}
pub use Rattle.ann_settled.specs.Settled.{IsRead}
