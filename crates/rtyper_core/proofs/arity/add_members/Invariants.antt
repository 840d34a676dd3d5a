use Rattle.std.proofs.Common.{◌≡◌, drop}
use Rattle.rtyper_core.specs.Arity.{with_members}
use Rattle.rtyper_core.proofs.arity.add_members.Given as goal

abbrev pub invariant-loop-member : goal.invariant-loop-member
invariant-loop-member l = with_members (drop l.member-index l.members) l.arities ≡ with_members l.members l.fn.arities
