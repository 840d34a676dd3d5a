use Rattle.std.proofs.Common.{◌≡◌, ◌++◌}
use Rattle.rpy_sample.specs.Sample.{calls}
use Rattle.rpy_sample.proofs.sample.push_calls.Given as goal

abbrev pub invariant-loop-i : goal.invariant-loop-i
invariant-loop-i l = l.into ≡ l.initial.into ++ calls l.i
