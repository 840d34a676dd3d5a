use Rattle.std.proofs.Common.{◌≡◌, ◌++◌, drop}
use Rattle.rtyper_layout.specs.Layout.{all_dicts}
use Rattle.rtyper_layout.proofs.layout.push_dicts.Given as goal

abbrev pub invariant-loop-mapping : goal.invariant-loop-mapping
invariant-loop-mapping l = l.structs ++ all_dicts (drop l.mapping-index l.mappings) ≡ l.initial.structs ++ all_dicts l.mappings
