use Rattle.std.proofs.Common.{◌≡◌, drop}
use Rattle.ll_code.specs.Typed.{blocks_ok}
use Rattle.ll_code.proofs.check.graphs.blocks_ok.Given as goal

abbrev pub invariant-loop-block : goal.invariant-loop-block
invariant-loop-block l = blocks_ok l.program l.graph (drop l.block-index l.blocks) ≡ blocks_ok l.program l.graph l.blocks
