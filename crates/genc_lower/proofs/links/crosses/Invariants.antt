use Rattle.std.proofs.Common.{◌≡◌, drop}
use Rattle.genc_lower.specs.Lower.{crosses_in}
use Rattle.genc_lower.proofs.links.crosses.Given as goal

abbrev pub invariant-loop-i : goal.invariant-loop-i
invariant-loop-i l = crosses_in l.inputs l.xs (drop l.i l.inputs) (drop l.i l.xs) ≡ crosses_in l.inputs l.xs l.inputs l.xs
