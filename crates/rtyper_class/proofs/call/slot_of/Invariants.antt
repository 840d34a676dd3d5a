use Rattle.std.proofs.Common.{◌≡◌, drop}
use Rattle.rtyper_class.specs.Calls.{slot_from}
use Rattle.rtyper_class.proofs.call.slot_of.Given as goal

abbrev pub invariant-loop-each : goal.invariant-loop-each
invariant-loop-each l = slot_from l.slot (drop l.each-index l.names) l.name ≡ slot_from 1 l.names l.name
