use Rattle.std.proofs.Common.{◌≡◌, drop}
use Rattle.rpy_names.specs.Tables.{functions_onto, function_infos}
use Rattle.rpy_names.proofs.tables.function_infos.Given as goal

abbrev pub invariant-loop-at : goal.invariant-loop-at
invariant-loop-at l = functions_onto l.infos l.units l.found (drop l.at-index l.functions) ≡ function_infos l.units l.found l.functions
