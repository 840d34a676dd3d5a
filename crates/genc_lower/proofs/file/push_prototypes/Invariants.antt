use Rattle.std.proofs.Common.{◌≡◌, ◌++◌, drop}
use Rattle.genc_lower.specs.Lower.{prototype, others}
use Rattle.genc_lower.proofs.file.push_prototypes.Given as goal

abbrev pub invariant-loop-i : goal.invariant-loop-i
invariant-loop-i l = l.into ++ others prototype l.entry l.i (drop l.i l.graphs) ≡ l.initial.into ++ others prototype l.entry 0 l.graphs
