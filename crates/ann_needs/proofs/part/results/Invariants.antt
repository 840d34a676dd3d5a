use Rattle.std.proofs.Common.{◌≡◌, map, take}
use Rattle.ann_lattice.specs.Shape.{shape}
use Rattle.ann_rules.specs.Asks as rule
use Rattle.ann_needs.specs.View as spec
use Rattle.ann_needs.proofs.part.results.Given as goal

abbrev pub invariant-loop-f : goal.invariant-loop-f
invariant-loop-f l = map shape l.parts ≡ rule.results (spec.whole l.p) (spec.assignment l.s) (take l.f-index l.fs)
