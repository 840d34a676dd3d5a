use Rattle.std.proofs.Common.{◌≡◌, drop}
use Rattle.ann_shown.specs.Functions as spec
use Rattle.ann_shown.proofs.functions.add_methods.Given as goal

abbrev pub invariant-loop-member : goal.invariant-loop-member
invariant-loop-member l = spec.with_methods l.first (drop l.member-index l.members) l.all ≡ spec.with_methods l.first l.members l.fn.all
