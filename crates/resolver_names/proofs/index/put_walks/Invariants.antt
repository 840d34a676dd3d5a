use Rattle.std.proofs.Common.{◌≡◌, drop}
use Rattle.resolver_names.specs.Tables.{put_walks}
use Rattle.resolver_names.proofs.index.put_walks.Given as goal

abbrev pub invariant-loop-site : goal.invariant-loop-site
invariant-loop-site l = put_walks l.number (drop l.site-index l.sites) l.table ≡ put_walks 0 l.sites l.initial.table
