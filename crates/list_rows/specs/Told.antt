-- What is told of operands and results of operations on lists, beside their elements.
use Rattle.std.specs.Prelude.{◌≡◌, ℕ, Bool, true, false, List, [], ◌∷◌, slice_get, Some}
use Rattle.ann_element.specs.declared.element.Element.{Element}
use Rattle.ann_element.specs.declared.element.Element.TheVariants as element
use Rattle.flow_graph.specs.declared.graph.Op.{Op}
use Rattle.rtyper_layout.specs.declared.kind.Kind.{Kind}
use Rattle.rtyper_layout.specs.declared.kind.Kind.TheVariants as kind
use Rattle.rtyper_program.specs.Seen.{element_at}
use Rattle.object_laws.specs.Staying.{Stays}
use Rattle.typed_rows.specs.Programs.{Typed, layout}
use Rattle.typed_rows.specs.Rows.{kind_at}

abbrev pub of_word : Kind → Bool
of_word kind.Word = true
of_word _ = false

-- it is a list, and never `None`
abbrev pub of_list_there : Kind → Bool
of_list_there kind.List = true
of_list_there _ = false

-- two things are told
abbrev pub Both : (Typed → ℕ → Op → Type 0) → (Typed → ℕ → Op → Type 0) → Typed → ℕ → Op → Type 0
Both One Other t n o = One t n o × Other t n o

-- what is known of its result is of this kind
abbrev pub ResultIs : (Kind → Bool) → Typed → ℕ → Op → Type 0
ResultIs of t n o = of (kind_at t n o.result) ≡ true

-- the variable is a list, of whose items this is known
pub record IsItemOf (t : Typed) (n v : ℕ) (item : Element) : Type 0 where
  pub site : ℕ
  pub or_none : Bool
  pub list : element_at t.known.annotation n v ≡ Some (element.List site or_none)
  pub stands : slice_get t.known.annotation.items site ≡ Some item

-- An item of its first operand stays what it is as the result.
abbrev pub ItemsStay : Typed → ℕ → Op → Type 0
ItemsStay t n o = (v : ℕ) (item : Element) → slice_get o.args 0 ≡ Some v → IsItemOf t n v item → Stays (layout t) t.seen (Some item) (element_at t.known.annotation n o.result)

-- Its third operand stays what it is as an item of the first, and as the result.
abbrev pub StoredStays : Typed → ℕ → Op → Type 0
StoredStays t n o = (v u : ℕ) (item : Element) → slice_get o.args 0 ≡ Some v → slice_get o.args 2 ≡ Some u → IsItemOf t n v item
    → Stays (layout t) t.seen (element_at t.known.annotation n u) (Some item) × Stays (layout t) t.seen (element_at t.known.annotation n u) (element_at t.known.annotation n o.result)

-- An item of its second operand stays what it is as one of the first.
abbrev pub OthersStay : Typed → ℕ → Op → Type 0
OthersStay t n o = (v u : ℕ) (item other : Element) → slice_get o.args 0 ≡ Some v → slice_get o.args 1 ≡ Some u → IsItemOf t n v item → IsItemOf t n u other → Stays (layout t) t.seen (Some other) (Some item)

-- An item of the operand at this place stays what it is as one of the result.
abbrev pub StaysAt : ℕ → Typed → ℕ → Op → Type 0
StaysAt k t n o = (v : ℕ) (item other : Element) → slice_get o.args k ≡ Some v → IsItemOf t n v item → IsItemOf t n o.result other → Stays (layout t) t.seen (Some item) (Some other)

-- There are operands for the bounds of a slice that are there, and no others.
abbrev pub AreBounds : Bool → Bool → List ℕ → Type 0
AreBounds false false (v ∷ []) = Unit {0}
AreBounds true false (v ∷ u ∷ []) = Unit {0}
AreBounds false true (v ∷ u ∷ []) = Unit {0}
AreBounds true true (v ∷ u ∷ w ∷ []) = Unit {0}
AreBounds low high vs = ⊥

abbrev pub HasBounds : Bool → Bool → Typed → ℕ → Op → Type 0
HasBounds low high t n o = AreBounds low high o.args
