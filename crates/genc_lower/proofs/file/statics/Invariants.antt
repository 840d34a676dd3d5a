use Rattle.std.proofs.Common.{◌≡◌, ◌++◌, drop, map}
use Rattle.genc_lower.specs.Lower.{static_code}
use Rattle.genc_lower.proofs.file.statics.Given as goal

abbrev pub invariant-loop-item : goal.invariant-loop-item
invariant-loop-item l = l.made ++ map (static_code l.order) (drop l.item-index l.statics) ≡ map (static_code l.order) l.statics
