use Rattle.std.proofs.Common.{◌≡◌, drop}
use Rattle.rtyper_op.specs.Prebuilt.{all_ready}
use Rattle.rtyper_op.proofs.prebuilt.all_ready.Given as goal

abbrev pub invariant-loop-pair : goal.invariant-loop-pair
invariant-loop-pair l = all_ready l.found (drop l.pair-index l.pairs) ≡ all_ready l.found l.pairs
