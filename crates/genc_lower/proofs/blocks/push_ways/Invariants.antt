use Rattle.std.proofs.Common.{◌≡◌, ◌++◌, drop}
use Rattle.genc_lower.specs.Lower.{ways}
use Rattle.genc_lower.proofs.blocks.push_ways.Given as goal

abbrev pub invariant-loop-block : goal.invariant-loop-block
invariant-loop-block l = l.into ++ ways l.order l.graph (drop l.block-index l.blocks) ≡ l.initial.into ++ ways l.order l.graph l.blocks
