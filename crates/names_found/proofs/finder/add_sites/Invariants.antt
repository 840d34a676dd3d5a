use Rattle.std.proofs.Common.{◌≡◌, ◌-◌}
use Rattle.names_found.specs.Finder.{add_sites}
use Rattle.names_found.proofs.finder.add_sites.Given as goal

abbrev pub invariant-loop-turn : goal.invariant-loop-turn
invariant-loop-turn l = add_sites (l.count - l._turn) l.site l.sites ≡ add_sites l.count l.site l.fn.sites
