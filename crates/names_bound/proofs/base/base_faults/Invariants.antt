use Rattle.std.proofs.Common.{◌≡◌, drop}
use Rattle.names_bound.specs.Base.{faults_onto, base_faults}
use Rattle.names_bound.proofs.base.base_faults.Given as goal

abbrev pub invariant-loop-place : goal.invariant-loop-place
invariant-loop-place l = faults_onto l.least l.place l.scopes l.named l.classes l.units (drop l.place l.classes) ≡ base_faults l.scopes l.named l.classes l.units
