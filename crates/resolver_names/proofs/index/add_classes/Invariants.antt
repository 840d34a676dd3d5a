use Rattle.std.proofs.Common.{◌≡◌, drop}
use Rattle.resolver_names.specs.Tables.{classes_onto}
use Rattle.resolver_names.proofs.index.add_classes.Given as goal

abbrev pub invariant-loop-class : goal.invariant-loop-class
invariant-loop-class l = classes_onto (drop l.class-index l.classes) l.methods ≡ classes_onto l.classes l.initial.methods
