use Rattle.std.proofs.Common.{◌≡◌, ◌+◌, ◌*◌, drop}
use Rattle.ann_element.specs.Size.{size, sizes}
use Rattle.rtyper_layout.specs.Types.{are_same, shape, shape_from}
use Rattle.rtyper_layout.proofs.shapes.+repr.Given as goal

abbrev pub invariant-is_shape-loop-part : goal.invariant-is_shape-loop-part
invariant-is_shape-loop-part l = are_same (shape l.layout (drop l.part-index l.parts)) l.rest ≡ are_same (shape l.layout l.parts) l.initial.rest

abbrev pub invariant-place_of-loop-shape : goal.invariant-place_of-loop-shape
invariant-place_of-loop-shape l = record {
  counted : l.place ≡ l.shape-index;
  rest : shape_from l.shape-index (drop l.shape-index l.layout.shapes) (shape l.layout l.parts) ≡ shape_from 0 l.layout.shapes (shape l.layout l.parts);
}

-- Each call has fewer parts, or as many and a lower rank.
abbrev pub decreases-repr : goal.decreases-repr
decreases-repr l = 4 * size l.element.now

abbrev pub decreases-is_field : goal.decreases-is_field
decreases-is_field l = 4 * size l.part.now + 1

abbrev pub decreases-is_shape : goal.decreases-is_shape
decreases-is_shape l = 4 * sizes l.parts.now + 2

abbrev pub decreases-place_of : goal.decreases-place_of
decreases-place_of l = 4 * sizes l.parts.now + 3
