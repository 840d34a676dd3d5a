use Rattle.std.proofs.Common.{◌≡◌, drop}
use Rattle.names_bound.specs.Base.{bases_onto, class_bases}
use Rattle.names_bound.proofs.base.class_bases.Given as goal

abbrev pub invariant-loop-at : goal.invariant-loop-at
invariant-loop-at l = bases_onto l.bases l.scopes l.classes l.units (drop l.at-index l.classes) ≡ class_bases l.scopes l.classes l.units
