-- Items are taken out of lists.
use Rattle.std.specs.Prelude.{◌≡◌, ℕ, true, List, [], ◌∷◌, ◌++◌, Option, Some, codes}
use Rattle.ann_element.specs.declared.element.Element.{Element}
use Rattle.ll_code.specs.declared.program.LlType.TheVariants as type
use Rattle.rpy_meaning.specs.declared.row.Covers.{Covers}
use Rattle.rpy_meaning.specs.declared.row.RowOp.TheVariants as row
use Rattle.rtyper_layout.specs.declared.kind.Kind.TheVariants as kind
use Rattle.rtyper_layout.specs.Kinds.{kind_seen}
use Rattle.rtyper_data.specs.declared.small.Listed.TheVariants as listed
use Rattle.rtyper_data.specs.declared.small.Small.TheVariants as small
use Rattle.rtyper_data.specs.Seen.{Around, Operand, Place, kind_of, type_of, Writing}
use Rattle.rtyper_list.specs.Operands.{of_list}
use Rattle.lower_laws.specs.Asked.{Ask, Make}
use Rattle.object_laws.specs.Known.{Known}
use Rattle.object_laws.specs.Staying.{Stays}
use Rattle.list_laws.specs.Lists.{IsList, there_asks}
use Rattle.list_laws.specs.Presence.{IsTold}

-- what is asked for
abbrev pub take_asks : Around → Operand → ℕ → Covers → List Ask
take_asks around a n c = there_asks around a c ++ Make (small.Listed (listed.Place n c.index)) ∷ Make (small.Listed (listed.Remove n)) ∷ []

-- ---- what is taken

-- the item at an index is deleted; the later ones move down
abbrev pub ItemsAreDeleted : Type 0
ItemsAreDeleted = (known : Known) (around : Around) (place : Place) (a b : Operand) (w : Writing) (n : ℕ) → of_list (kind_of a) ≡ true → type_of around a ≡ type.Ptr n → kind_of b ≡ kind.Word → kind_seen place.element ≡ kind.Nothing
    → IsTold known around row.DeleteIndex w.found.covered (take_asks around a n w.found.covered) place (a ∷ b ∷ []) w

-- the last item, or that at an index, is given, and taken out
abbrev pub LastItemsArePopped : Type 0
LastItemsArePopped = (site : Option ℕ) (known : Known) (around : Around) (place : Place) (a : Operand) (w : Writing) (n : ℕ) (item : Element) → IsList around known a.element n item → Stays around.layout known (Some item) place.element
    → IsTold known around (row.Method (codes "pop") site) w.found.covered (take_asks around a n w.found.covered) place (a ∷ []) w

abbrev pub ItemsArePopped : Type 0
ItemsArePopped = (site : Option ℕ) (known : Known) (around : Around) (place : Place) (a b : Operand) (w : Writing) (n : ℕ) (item : Element) → IsList around known a.element n item → kind_of b ≡ kind.Word → Stays around.layout known (Some item) place.element
    → IsTold known around (row.Method (codes "pop") site) w.found.covered (take_asks around a n w.found.covered) place (a ∷ b ∷ []) w
