use Rattle.std.proofs.Common.{◌≡◌, ◌∷◌, ◌++◌, drop}
use Rattle.rtyper_data.specs.Seen.{the_operand, the_operands}
use Rattle.rtyper_class.proofs.call.with_first.Given as goal

abbrev pub invariant-loop-operand : goal.invariant-loop-operand
invariant-loop-operand l = the_operands (l.all.items ++ drop l.operand-index l.rest) ≡ the_operand l.fn.first ∷ the_operands l.rest
