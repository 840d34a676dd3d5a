use Rattle.std.proofs.Common.{◌≡◌}
use Rattle.rtyper_layout.specs.Families.{placed}
use Rattle.rtyper_layout.proofs.classes.order_of.Given as goal

abbrev pub invariant-loop-number : goal.invariant-loop-number
invariant-loop-number l = l.order ≡ placed l.classes.classes l.number
