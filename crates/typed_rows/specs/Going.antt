-- Elements that go to others, in a program that has types.
use Rattle.std.specs.Prelude.{Some}
use Rattle.ann_element.specs.declared.element.Element.{Element}
use Rattle.ann_lattice.specs.Order.{Below}
use Rattle.ann_lattice.specs.Shape.{shape}
use Rattle.conversion_laws.specs.Going.{Goes}
use Rattle.conversion_laws.specs.Ordered.{IsLaid}
use Rattle.typed_rows.specs.Programs.{Typed, IsTyped, layout, same}

abbrev pub ElementsPass : Type 0
ElementsPass = (t : Typed) → IsTyped t → (a b : Element) → IsLaid (layout t) (same t) a → IsLaid (layout t) (same t) b → Below t.classes.classes (same t) (shape a) (shape b) → Goes (layout t) t.seen (Some a) (Some b)
