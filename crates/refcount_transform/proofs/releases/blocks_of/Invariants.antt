use Rattle.std.proofs.Common.{◌≡◌, ◌++◌, ◌+◌, drop, length}
use Rattle.refcount_transform.specs.Blocks as b
use Rattle.refcount_transform.specs.Seen.{the_graph}
use Rattle.refcount_transform.proofs.releases.blocks_of.Given as goal

abbrev pub invariant-loop-block : goal.invariant-loop-block
invariant-loop-block l = (l.made ++ b.firsts (the_graph l.around) (l.first + length l.extra) (drop l.block-index l.blocks) ≡ b.firsts (the_graph l.around) l.first l.blocks) × (l.extra ++ b.others (the_graph l.around) (drop l.block-index l.blocks) ≡ b.others (the_graph l.around) l.blocks)
