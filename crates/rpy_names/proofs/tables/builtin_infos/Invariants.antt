use Rattle.std.proofs.Common.{◌≡◌}
use Rattle.rpy_names.specs.Tables.{builtins_to}
use Rattle.rpy_names.proofs.tables.builtin_infos.Given as goal

abbrev pub invariant-loop-class : goal.invariant-loop-class
invariant-loop-class l = l.infos ≡ builtins_to l.bases l.class
