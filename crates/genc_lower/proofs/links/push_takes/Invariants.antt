use Rattle.std.proofs.Common.{◌≡◌, ◌++◌, drop}
use Rattle.genc_lower.specs.Lower.{takes}
use Rattle.genc_lower.proofs.links.push_takes.Given as goal

abbrev pub invariant-loop-i : goal.invariant-loop-i
invariant-loop-i l = l.into ++ takes l.above l.inputs l.xs (drop l.i l.inputs) (drop l.i l.xs) ≡ l.initial.into ++ takes l.above l.inputs l.xs l.inputs l.xs
