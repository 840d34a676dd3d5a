use Rattle.std.proofs.Common.{◌≡◌, drop}
use Rattle.genc_lower.specs.Lower.{changes}
use Rattle.genc_lower.proofs.links.changes.Given as goal

abbrev pub invariant-loop-i : goal.invariant-loop-i
invariant-loop-i l = changes l.w (drop l.i l.inputs) (drop l.i l.xs) ≡ changes l.w l.inputs l.xs
