use Rattle.std.proofs.Common.{◌≡◌, drop}
use Rattle.class_desc.specs.Line.{named}
use Rattle.class_desc.proofs.classes.constant_named.Given as goal

abbrev pub invariant-loop-constant : goal.invariant-loop-constant
invariant-loop-constant l = named l.name (drop l.constant-index l.constants) ≡ named l.name l.constants
