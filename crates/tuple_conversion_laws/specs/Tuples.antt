-- Tuples that are made and read, whose items are converted on the way.
use Rattle.std.specs.Prelude.{◌≡◌, ◌≢◌, ℕ, ◌+◌, ℤ, false, List, [], ◌∷◌, length, slice_get, Some}
use Rattle.ann_element.specs.declared.element.Element.{Element}
use Rattle.rpy_meaning.specs.World.{World}
use Rattle.rpy_meaning.specs.declared.row.Covers.{Covers}
use Rattle.rpy_meaning.specs.declared.row.RowOp.TheVariants as row
use Rattle.rpy_tree.specs.Value.{Value as Meant, Word as Number}
use Rattle.ll_code.specs.declared.program.LlType.TheVariants as type
use Rattle.rtyper_layout.specs.declared.kind.Kind.TheVariants as kind
use Rattle.rtyper_layout.specs.declared.layout.Layout.{Layout}
use Rattle.rtyper_layout.specs.Layout.{is_tuple}
use Rattle.rtyper_layout.specs.Types.{type_of as type_of_element}
use Rattle.rtyper_op.specs.Lowering.{is_never, lower_op}
use Rattle.rtyper_data.specs.Seen.{Around, Operand, Place, kind_of, type_at, Writing}
use Rattle.rtyper_data.specs.Tuples.{place_of}
use Rattle.lower_laws.specs.Asked.{Has}
use Rattle.object_laws.specs.Done.{references}
use Rattle.object_laws.specs.Known.{Known}
use Rattle.conversion_laws.specs.Asked.{asks_for}
use Rattle.conversion_laws.specs.Converted.{tuples_in, items_in}
use Rattle.conversion_laws.specs.Going.{Goes, IsTuple}
use Rattle.passing_laws.specs.Done.{IsDoneBehind, IsDoneBehindWhere}
use Rattle.passing_laws.specs.Passing.{AllPass, pass_asks, tuples_of, items_of}
use Rattle.passing_laws.specs.Standing.{HasOne, With}

abbrev pub HasTuples : Layout → HasOne
HasTuples layout = With (λ p. Has p layout) layout

abbrev pub references_made : List Element → World → List Meant → ℕ
references_made parts world vs = items_of parts + references world.heap vs

-- a tuple is made of operands that go to its items, at its cost; each may be there, and the struct of strings is no tuple
abbrev pub TuplesAreMade : Type 0
TuplesAreMade = (known : Known) (around : Around) (place : Place) (args : List Operand) (w : Writing) (covers : Covers) (n : ℕ) (parts : List Element) → is_tuple around.layout 0 ≡ false → is_never args ≡ false → IsTuple around.layout place.element n parts → AllPass around.layout known args parts
    → IsDoneBehind (HasTuples around.layout) (references_made parts) (1 + tuples_of parts) 0 0 known around row.Tuple covers (pass_asks around.layout args parts) (lower_op around row.Tuple place args w) place args w

-- the item has a type
abbrev pub AreThere : Around → Element → Type 0
AreThere around part = type_of_element around.layout part ≢ type.Void

-- how many references are written where an item is converted
abbrev pub references_given : Place → World → List Meant → ℕ
references_given place world vs = items_in place.element + references world.heap vs

-- an item of a tuple is taken for a target, converted to what is known of the place
abbrev pub ItemsAreUnpacked : Type 0
ItemsAreUnpacked = (known : Known) (around : Around) (place : Place) (a : Operand) (w : Writing) (covers : Covers) (n : ℕ) (parts : List Element) (count i : ℕ) (part : Element) → is_tuple around.layout 0 ≡ false → IsTuple around.layout a.element n parts → slice_get parts i ≡ Some part → AreThere around part → Goes around.layout known (Some part) place.element
    → IsDoneBehind (HasTuples around.layout) (references_given place) (tuples_in place.element) 0 0 known around (row.Unpack count i) covers (asks_for around.layout (type_of_element around.layout part) (type_at around place)) (lower_op around (row.Unpack count i) place (a ∷ []) w) place (a ∷ []) w

-- the second value is this word
abbrev pub IsIndex : ℤ → World → List Meant → Type 0
IsIndex z world (v ∷ u ∷ []) = u ≡ Number z
IsIndex z world vs = Unit {0}

-- the item at an index that is known
abbrev pub ItemsAreRead : Type 0
ItemsAreRead = (known : Known) (around : Around) (place : Place) (a b : Operand) (w : Writing) (covers : Covers) (n : ℕ) (parts : List Element) (z : ℤ) (part : Element) → is_tuple around.layout 0 ≡ false → IsTuple around.layout a.element n parts → kind_of b ≡ kind.Word → slice_get parts (place_of z (length parts)) ≡ Some part → AreThere around part
    → Goes around.layout known (Some part) place.element
    → IsDoneBehindWhere (IsIndex z) (HasTuples around.layout) (references_given place) (tuples_in place.element) 0 0 known around (row.Index (Some z)) covers (asks_for around.layout (type_of_element around.layout part) (type_at around place)) (lower_op around (row.Index (Some z)) place (a ∷ b ∷ []) w) place (a ∷ b ∷ []) w
