-- What is told of operands that are compared.
use Rattle.std.specs.Prelude.{◌≡◌, ◌&&◌, ℕ, Bool, true, false, slice_get, Some}
use Rattle.ann_element.specs.declared.element.Element.{Element}
use Rattle.ann_lattice.specs.Shape.{Shape, Nothing, Tup, Shapes, end, more, shape}
use Rattle.flow_graph.specs.declared.graph.Op.{Op}
use Rattle.rtyper_layout.specs.declared.kind.Kind.{Kind}
use Rattle.rtyper_layout.specs.declared.kind.Kind.TheVariants as kind
use Rattle.rtyper_program.specs.Seen.{element_at}
use Rattle.typed_rows.specs.Programs.{Typed}

-- no item of a tuple, at any depth, is one that never is
abbrev mutual
  pub is_whole : Shape → Bool
  is_whole Nothing = false
  is_whole (Tup xs) = are_whole xs
  is_whole other = true

  pub are_whole : Shapes → Bool
  are_whole end = true
  are_whole (more x xs) = is_whole x && are_whole xs

-- each operand is such
abbrev pub AreWhole : Typed → ℕ → Op → Type 0
AreWhole t n o = (i v : ℕ) (e : Element) → slice_get o.args i ≡ Some v → element_at t.known.annotation n v ≡ Some e → is_whole (shape e) ≡ true

-- a function value that may be missing is not told of
abbrev pub has_truth : Kind → Bool
has_truth kind.MaybeFunction = false
has_truth k = true

abbrev pub is_byte : Kind → Bool
is_byte kind.Byte = true
is_byte k = false
