use Rattle.std.proofs.Common.{◌≡◌, drop}
use Rattle.rtyper_layout.specs.Families.{has_name}
use Rattle.rtyper_layout.proofs.classes.has_name.Given as goal

abbrev pub invariant-loop-each : goal.invariant-loop-each
invariant-loop-each l = has_name (drop l.each-index l.names) l.name ≡ has_name l.names l.name
