use Rattle.std.proofs.Common.{◌≡◌, drop}
use Rattle.rpy_names.specs.Uses.{put_units}
use Rattle.rpy_names.proofs.uses.put_units.Given as goal

abbrev pub invariant-loop-unit : goal.invariant-loop-unit
invariant-loop-unit l = put_units l.values l.modules (drop l.unit-index l.found) l.uses ≡ put_units l.values l.modules l.found l.fn.uses
