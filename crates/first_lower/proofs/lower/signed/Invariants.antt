use Rattle.std.proofs.Common.{◌≡◌}
use Rattle.std.specs.Prelude.{replicate}
use Rattle.csub_tree.specs.declared.tree.CType.TheVariants.{Signed}
use Rattle.first_lower.proofs.lower.signed.Given as goal

abbrev pub invariant-loop : goal.invariant-loop
invariant-loop l = l.kinds ≡ replicate l.counter Signed
