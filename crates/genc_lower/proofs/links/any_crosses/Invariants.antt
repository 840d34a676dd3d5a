use Rattle.std.proofs.Common.{◌≡◌, drop}
use Rattle.genc_lower.specs.Lower.{any_crosses}
use Rattle.genc_lower.proofs.links.any_crosses.Given as goal

abbrev pub invariant-loop-block : goal.invariant-loop-block
invariant-loop-block l = any_crosses l.graph (drop l.block-index l.blocks) ≡ any_crosses l.graph l.blocks
