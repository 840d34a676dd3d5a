use Rattle.std.proofs.Common.{◌≡◌, ◌++◌, drop}
use Rattle.ll_joined.specs.Joined.{types_from, types_of}
use Rattle.ll_joined.proofs.number.types_of.Given as goal

abbrev pub invariant-loop-i : goal.invariant-loop-i
invariant-loop-i l = l.kept ++ types_from l.named l.i (drop l.i l.types) ≡ types_of l.named l.types
