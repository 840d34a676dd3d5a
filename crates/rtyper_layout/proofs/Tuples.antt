-- The type of a tuple.
use Rattle.std.proofs.Common.{◌≡◌, List, [], ◌∷◌, map, refl, sym, ap, ◌∙◌}
use Rattle.ann_element.specs.declared.element.Element.{Element, fold-roll-Element}
use Rattle.ann_element.specs.declared.element.Element.TheVariants as e
use Rattle.ann_element.specs.declared.element.Element.TheOpen.{Element-F}
use Rattle.ll_code.specs.declared.program.LlType.{LlType}
use Rattle.rtyper_layout.specs.declared.layout.Layout.{Layout}
use Rattle.rtyper_layout.specs.Types.{field_type, type_step, type_of, shape, shape_from, pointer_to}

shape_is : (layout : Layout) (parts : List Element) → map field_type (map (type_of layout) parts) ≡ shape layout parts
shape_is layout [] = refl
shape_is layout (e ∷ es) = ap (λ types. field_type (type_of layout e) ∷ types) (shape_is layout es)

pub tuple_is : (layout : Layout) (parts : List Element) → type_of layout (e.Tuple parts) ≡ pointer_to layout.first_tuple 1 (shape_from 0 layout.shapes (shape layout parts))
tuple_is layout parts =
    ap (type_of layout) (sym (e.rolls-Tuple parts)) ∙ fold-roll-Element LlType (type_step layout) (Element-F.Tuple parts)
    ∙ ap (λ types. pointer_to layout.first_tuple 1 (shape_from 0 layout.shapes types)) (shape_is layout parts)
