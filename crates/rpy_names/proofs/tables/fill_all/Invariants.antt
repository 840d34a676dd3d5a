use Rattle.std.proofs.Common.{◌≡◌, drop}
use Rattle.rpy_names.specs.Tables.{fill_all}
use Rattle.rpy_names.proofs.tables.fill_all.Given as goal

abbrev pub invariant-loop-one : goal.invariant-loop-one
invariant-loop-one l = fill_all l.sites (drop l.one-index l.prebuilt) l.all ≡ fill_all l.sites l.prebuilt l.fn.all
