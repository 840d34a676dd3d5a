use Rattle.std.proofs.Common.{◌≡◌, drop}
use Rattle.rtyper_core.specs.Call.{methods_from, methods}
use Rattle.rtyper_core.proofs.call.methods_of.Given as goal

abbrev pub invariant-loop-class : goal.invariant-loop-class
invariant-loop-class l = methods_from l.classes l.receiver l.name l.class (drop l.class l.made) l.functions ≡ methods l.classes l.made l.receiver l.name
