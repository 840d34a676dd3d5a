use Rattle.std.proofs.Common.{◌≡◌}
use Rattle.names_bound.specs.Base.{kept_from}
use Rattle.names_bound.proofs.base.without_rings.Given as goal

abbrev pub invariant-loop-class : goal.invariant-loop-class
invariant-loop-class l = l.without ≡ kept_from l.bases l.class
