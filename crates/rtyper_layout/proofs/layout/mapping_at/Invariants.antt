use Rattle.std.proofs.Common.{◌≡◌, drop}
use Rattle.rtyper_layout.specs.Layout.{mapping_at}
use Rattle.rtyper_layout.proofs.layout.mapping_at.Given as goal

abbrev pub invariant-loop-mapping : goal.invariant-loop-mapping
invariant-loop-mapping l = mapping_at (drop l.mapping-index l.mappings) l.number ≡ mapping_at l.mappings l.number
