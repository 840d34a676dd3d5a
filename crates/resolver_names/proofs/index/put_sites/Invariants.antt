use Rattle.std.proofs.Common.{◌≡◌, drop}
use Rattle.resolver_names.specs.Tables.{put_sites}
use Rattle.resolver_names.proofs.index.put_sites.Given as goal

abbrev pub invariant-loop-site : goal.invariant-loop-site
invariant-loop-site l = put_sites l.number (drop l.site-index l.sites) l.table ≡ put_sites 0 l.sites l.initial.table
