use Rattle.std.proofs.Common.{◌≡◌, drop}
use Rattle.rtyper_core.specs.Arity.{with_methods}
use Rattle.rtyper_core.proofs.arity.add_methods.Given as goal

abbrev pub invariant-loop-member : goal.invariant-loop-member
invariant-loop-member l = with_methods (drop l.member-index l.members) l.arities ≡ with_methods l.members l.fn.arities
