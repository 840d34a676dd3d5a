use Rattle.std.proofs.Common.{◌≡◌, ◌++◌, drop}
use Rattle.rtyper_layout.specs.Layout.{mappings_from}
use Rattle.rtyper_layout.proofs.layout.mappings_of.Given as goal

abbrev pub invariant-loop-site : goal.invariant-loop-site
invariant-loop-site l =
    l.mappings ++ mappings_from l.layout l.annotation l.dict (drop l.site-index l.layout.dicts) ≡ mappings_from l.layout l.annotation l.layout.first_dict l.layout.dicts
