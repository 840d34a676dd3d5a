use Rattle.std.proofs.Common.{◌≡◌, ◌++◌, drop}
use Rattle.rpy_resolver.proofs.simple.copy_classes.Given as goal

abbrev pub invariant-loop-class : goal.invariant-loop-class
invariant-loop-class l = l.copies ++ drop l.class-index l.classes ≡ l.classes
