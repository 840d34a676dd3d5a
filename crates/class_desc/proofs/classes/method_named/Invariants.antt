use Rattle.std.proofs.Common.{◌≡◌, drop}
use Rattle.class_desc.specs.Line.{named}
use Rattle.class_desc.proofs.classes.method_named.Given as goal

abbrev pub invariant-loop-method : goal.invariant-loop-method
invariant-loop-method l = named l.name (drop l.method-index l.methods) ≡ named l.name l.methods
