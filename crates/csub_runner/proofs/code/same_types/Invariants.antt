use Rattle.std.proofs.Common.{◌≡◌, ◌≤◌, drop, length}
use Rattle.csub_tree.specs.Statement.{same_types}
use Rattle.csub_runner.proofs.code.same_types.Given as goal

abbrev pub invariant-loop-i : goal.invariant-loop-i
invariant-loop-i l = record { same : same_types l.ss l.ts ≡ same_types (drop l.i l.ss) (drop l.i l.ts); within : l.i ≤ length l.ts }
