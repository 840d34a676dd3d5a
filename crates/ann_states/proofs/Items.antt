-- Tuples are named item by item.
use Rattle.std.proofs.Common.{◌≡◌, ℕ, List, [], ◌∷◌, map, refl, ap, ◌∙◌}
use Rattle.ann_lattice.specs.Shape.{Shape, shape, shapes, shapes_of, more}
use Rattle.ann_element.specs.declared.element.Element.{Element}
use Rattle.ann_lattice.specs.Laws.{named, all_named}

pub items_named : (t : List ℕ) (xs : List Shape) → shapes_of (map (named t) xs) ≡ all_named t (shapes_of xs)
items_named t [] = refl
items_named t (x ∷ xs) = ap (more (named t x)) (items_named t xs)

pub tuple_named : (t : List ℕ) (es : List Element) (xs : List Shape) → map shape es ≡ map (named t) xs → shapes es ≡ all_named t (shapes_of xs)
tuple_named t es xs e = ap shapes_of e ∙ items_named t xs
