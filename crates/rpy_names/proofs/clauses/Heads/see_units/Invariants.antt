use Rattle.std.proofs.Common.{◌≡◌, drop}
use Rattle.rpy_names.specs.Clauses.{see_units}
use Rattle.rpy_names.proofs.clauses.Heads.see_units.Given as goal

abbrev pub invariant-loop-unit : goal.invariant-loop-unit
invariant-loop-unit l = see_units (drop l.unit-index l.found) l.self ≡ see_units l.found l.fn.self
