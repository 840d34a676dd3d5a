use Rattle.std.proofs.Common.{◌≡◌, drop, []}
use Rattle.rpy_names.specs.Tables.{bare_onto}
use Rattle.rpy_names.proofs.tables.bare_sites.Given as goal

abbrev pub invariant-loop-site : goal.invariant-loop-site
invariant-loop-site l = bare_onto l.all (drop l.site-index l.sites) ≡ bare_onto [] l.sites
