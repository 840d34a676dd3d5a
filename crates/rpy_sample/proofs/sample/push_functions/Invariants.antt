use Rattle.std.proofs.Common.{◌≡◌, ◌++◌}
use Rattle.rpy_sample.specs.Sample.{functions}
use Rattle.rpy_sample.proofs.sample.push_functions.Given as goal

abbrev pub invariant-loop-i : goal.invariant-loop-i
invariant-loop-i l = l.into ≡ l.initial.into ++ functions l.i
