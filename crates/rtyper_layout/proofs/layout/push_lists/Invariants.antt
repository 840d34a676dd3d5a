use Rattle.std.proofs.Common.{◌≡◌, ◌++◌, length, drop}
use Rattle.rtyper_layout.specs.Layout.{all_lists}
use Rattle.rtyper_layout.proofs.layout.push_lists.Given as goal

abbrev pub invariant-loop-site : goal.invariant-loop-site
invariant-loop-site l =
    l.structs ++ all_lists l.layout l.annotation (length l.structs) (drop l.site-index l.layout.lists)
    ≡ l.initial.structs ++ all_lists l.layout l.annotation (length l.initial.structs) l.layout.lists
