use Rattle.std.proofs.Common.{◌≡◌, drop, map}
use Rattle.rtyper_op.specs.Prebuilt.{are_true, is_ready}
use Rattle.rtyper_op.proofs.prebuilt.+ready.Given as goal

abbrev pub invariant-are_ready-loop-part : goal.invariant-are_ready-loop-part
invariant-are_ready-loop-part l = are_true (map (is_ready l.found) (drop l.part-index l.parts)) ≡ are_true (map (is_ready l.found) l.parts)
