use Rattle.std.proofs.Common.{◌≡◌, ◌++◌, ◌+◌, ◌*◌, take}
use Rattle.std.specs.List.{flat_map}
use Rattle.ann_element.specs.Size.{size, sizes}
use Rattle.ann_text.specs.ElementText.{next_element}
use Rattle.ann_text.proofs.element.+element.Given as goal

abbrev pub invariant-put_further-loop-part : goal.invariant-put_further-loop-part
invariant-put_further-loop-part l = l.text ≡ l.initial.text ++ flat_map (next_element l.labels l.same) (take l.part-index l.parts)

-- Each call has fewer parts, or as many and a lower rank.
abbrev pub decreases-put_element : goal.decreases-put_element
decreases-put_element l = 4 * size l.e.now

abbrev pub decreases-put_elements : goal.decreases-put_elements
decreases-put_elements l = 4 * sizes l.parts.now + 2

abbrev pub decreases-put_further : goal.decreases-put_further
decreases-put_further l = 4 * sizes l.parts.now + 1

abbrev pub decreases-put_tuple : goal.decreases-put_tuple
decreases-put_tuple l = 4 * sizes l.parts.now + 3
