use Rattle.std.proofs.Common.{◌≡◌, ◌+◌, ◌*◌, take}
use Rattle.ann_element.specs.Size.{size, sizes}
use Rattle.ann_element.proofs.element.+copy.Given as goal

abbrev pub invariant-copy_elements-loop-e : goal.invariant-copy_elements-loop-e
invariant-copy_elements-loop-e l = l.copies ≡ take l.e-index l.elements

abbrev pub decreases-copy_element : goal.decreases-copy_element
decreases-copy_element l = 2 * size l.e.now

abbrev pub decreases-copy_elements : goal.decreases-copy_elements
decreases-copy_elements l = 2 * sizes l.elements.now + 1
