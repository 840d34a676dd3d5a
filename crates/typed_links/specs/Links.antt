-- What links pass on is converted, in a program that has types.
use Rattle.std.specs.Prelude.{◌≡◌, ◌+◌, ℕ, List, [], ◌∷◌, slice_get, Option, Some, None}
use Rattle.ann_element.specs.declared.element.Element.{Element}
use Rattle.ann_lattice.specs.Order.{Below}
use Rattle.ann_lattice.specs.Shape.{shape}
use Rattle.flow_graph.specs.declared.graph.Graph.{Graph}
use Rattle.ll_code.specs.declared.program.LlType.{LlType}
use Rattle.lower_laws.specs.Asked.{all_asked}
use Rattle.rtyper_data.specs.Seen.{Writing}
use Rattle.rtyper_program.specs.Links.{arguments}
use Rattle.rtyper_program.specs.Seen.{element_at}
use Rattle.growth_laws.specs.Growing.{Grows}
use Rattle.conversion_laws.specs.Asked.{asks_for}
use Rattle.block_laws.specs.Links.{AllConvert, Stood}
use Rattle.typed_rows.specs.Programs.{Typed, IsTyped, first, last, layout, numbers, same, setting}
use Rattle.typed_rows.specs.Rows.{lowered_in}

-- whatever a conversion asks for stands, whenever it is asked for
abbrev pub ConversionsStand : Typed → Type 0
ConversionsStand t = (from to : LlType) (w : Writing) → Grows (first t) w.found → Grows (all_asked (asks_for (layout t) from to) w.found) (last t) → Stood (setting t) (numbers t) (asks_for (layout t) from to) w.found

-- what is known of the one variable of a graph is below what is known of the other
pub record IsBelow (t : Typed) (n a v : ℕ) : Type 0 where
  pub from : Element
  pub to : Element
  pub from_is : element_at t.known.annotation n a ≡ Some from
  pub to_is : element_at t.known.annotation n v ≡ Some to
  pub below : Below t.classes.classes (same t) (shape from) (shape to)

abbrev pub OneIsBelow : Typed → ℕ → Option ℕ → ℕ → Type 0
OneIsBelow t n None v = Unit {0}
OneIsBelow t n (Some a) v = IsBelow t n a v

-- what stands at the places of a link, from one on, is below what takes it
abbrev pub AllAreBelow : Typed → ℕ → List ℕ → ℕ → List ℕ → Type 0
AllAreBelow t n args i [] = Unit {0}
AllAreBelow t n args i (v ∷ inputs) = OneIsBelow t n (slice_get args i) v × AllAreBelow t n args (i + 1) inputs

-- Then it is converted.
abbrev pub LinksAreConverted : Type 0
LinksAreConverted = (t : Typed) → IsTyped t → ConversionsStand t → (n : ℕ) (graph : Graph) (args inputs : List ℕ) (w : Writing) → AllAreBelow t n args 0 inputs
    → Grows (first t) w.found → Grows (arguments (lowered_in t n graph) None args 0 inputs ([], w)).1.found (last t)
    → AllConvert (setting t) (numbers t) (lowered_in t n graph) args 0 inputs ([], w)
