use Rattle.std.proofs.Common.{◌≡◌, ◌++◌, drop, map}
use Rattle.genc_lower.specs.Lower.{c_struct}
use Rattle.genc_lower.proofs.types.c_structs.Given as goal

abbrev pub invariant-loop-item : goal.invariant-loop-item
invariant-loop-item l = l.made ++ map (c_struct) (drop l.item-index l.structs) ≡ map (c_struct) l.structs
