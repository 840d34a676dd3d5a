use Rattle.std.proofs.Common.{◌≡◌, ◌∷◌, map, take, false}
use Rattle.ann_lattice.specs.Shape.{Inst, shape}
use Rattle.ann_needs.proofs.call.with_receiver.Given as goal

abbrev pub invariant-loop-x : goal.invariant-loop-x
invariant-loop-x l = map shape l.all ≡ Inst l.class false ∷ map shape (take l.x-index l.xs)
