use Rattle.std.proofs.Common.{◌≡◌, ◌-◌}
use Rattle.ll_code.specs.Typed.{begins_within}
use Rattle.ll_code.proofs.check.types.begins_within.Given as goal

abbrev pub invariant-loop-i : goal.invariant-loop-i
invariant-loop-i l = begins_within l.structs (l.n - l._i) l.at l.m ≡ begins_within l.structs l.n l.n l.m
