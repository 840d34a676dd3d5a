use Rattle.std.proofs.Common.{◌≡◌, ◌+◌, ◌*◌, drop}
use Rattle.ann_element.specs.Size.{size, sizes}
use Rattle.rtyper_layout.specs.Sites.{shapes_in}
use Rattle.rtyper_layout.proofs.shapes.+shapes.Given as goal

abbrev pub invariant-push_shapes_in-loop-element : goal.invariant-push_shapes_in-loop-element
invariant-push_shapes_in-loop-element l = shapes_in l.layout (drop l.element-index l.elements) ≡ shapes_in l.initial.layout l.elements

abbrev pub decreases-push_shapes : goal.decreases-push_shapes
decreases-push_shapes l = 2 * size l.element.now

abbrev pub decreases-push_shapes_in : goal.decreases-push_shapes_in
decreases-push_shapes_in l = 2 * sizes l.elements.now + 1
