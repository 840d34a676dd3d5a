use Rattle.std.proofs.Common.{◌≡◌, ◌+◌, ◌*◌, map, take}
use Rattle.ann_element.specs.Size.{size, sizes}
use Rattle.ann_lattice.specs.Shape.{shape}
use Rattle.ann_lattice.specs.Laws as laws
use Rattle.ann_states.proofs.naming.+named.Given as goal

abbrev pub invariant-all_named-loop-part : goal.invariant-all_named-loop-part
invariant-all_named-loop-part l = map shape l.all ≡ map (laws.named l.same) (map shape (take l.part-index l.parts))

abbrev pub decreases-named : goal.decreases-named
decreases-named l = 3 * size l.e.now

abbrev pub decreases-all_named : goal.decreases-all_named
decreases-all_named l = 3 * sizes l.parts.now + 1

abbrev pub decreases-named_tuple : goal.decreases-named_tuple
decreases-named_tuple l = 3 * sizes l.parts.now + 2
