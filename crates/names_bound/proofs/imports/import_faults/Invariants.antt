use Rattle.std.proofs.Common.{◌≡◌, drop}
use Rattle.names_bound.specs.Imports.{faults_onto, faults}
use Rattle.names_bound.proofs.imports.import_faults.Given as goal

abbrev pub invariant-loop-unit : goal.invariant-loop-unit
invariant-loop-unit l = faults_onto l.least l.scopes l.modules (drop l.unit-index l.units) ≡ faults l.scopes l.modules l.units
