use Rattle.std.proofs.Common.{◌≡◌, ◌++◌, ◌-◌, length}
use Rattle.ann_rules.specs.Asks as rule
use Rattle.ann_needs.specs.View as spec
use Rattle.ann_needs.proofs.call.methods_of.Given as goal

abbrev pub invariant-loop-class : goal.invariant-loop-class
invariant-loop-class l = l.methods ++ rule.methods_from (spec.whole l.p) (spec.assignment l.s) l.«of» l.name l.class (length l.p.classes.classes - l.class) ≡ rule.methods (spec.whole l.p) (spec.assignment l.s) l.«of» l.name
