use Rattle.std.proofs.Common.{◌≡◌, ◌++◌, drop}
use Rattle.genc_lower.specs.Lower.{bodies}
use Rattle.genc_lower.proofs.blocks.push_bodies.Given as goal

abbrev pub invariant-loop-block : goal.invariant-loop-block
invariant-loop-block l = l.into ++ bodies l.order l.graph l.next (drop l.block-index l.blocks) ≡ l.initial.into ++ bodies l.order l.graph l.first l.blocks
