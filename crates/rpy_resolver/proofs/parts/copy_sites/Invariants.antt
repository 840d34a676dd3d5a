use Rattle.std.proofs.Common.{◌≡◌, ◌++◌, drop}
use Rattle.rpy_resolver.proofs.parts.copy_sites.Given as goal

abbrev pub invariant-loop-site : goal.invariant-loop-site
invariant-loop-site l = l.copies ++ drop l.site-index l.sites ≡ l.sites
