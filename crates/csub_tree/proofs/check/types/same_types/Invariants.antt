use Rattle.std.proofs.Common.{◌≡◌, drop}
use Rattle.csub_tree.specs.Statement.{same_types}
use Rattle.csub_tree.proofs.check.types.same_types.Given as goal

abbrev pub invariant-loop-i : goal.invariant-loop-i
invariant-loop-i l = same_types (drop l.i l.ss) (drop l.i l.ts) ≡ same_types l.ss l.ts
