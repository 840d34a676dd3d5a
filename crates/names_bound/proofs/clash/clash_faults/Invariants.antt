use Rattle.std.proofs.Common.{◌≡◌, drop}
use Rattle.names_bound.specs.Clash.{faults_onto, clash_faults}
use Rattle.names_bound.proofs.clash.clash_faults.Given as goal

abbrev pub invariant-loop-place : goal.invariant-loop-place
invariant-loop-place l = faults_onto l.least l.place l.bases l.clashing l.units (drop l.place l.classes) ≡ clash_faults l.bases l.clashing l.classes l.units
