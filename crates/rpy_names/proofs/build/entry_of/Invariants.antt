use Rattle.std.proofs.Common.{◌≡◌, ◌≤◌, drop}
use Rattle.rpy_names.specs.Build.{entry_from, entry_of}
use Rattle.rpy_names.proofs.build.entry_of.Given as goal

abbrev pub invariant-loop-unit : goal.invariant-loop-unit
invariant-loop-unit l = record {
  few : l.function ≤ l.unit-index;
  rest : entry_from l.function (drop l.unit-index l.units) ≡ entry_of l.units;
}
