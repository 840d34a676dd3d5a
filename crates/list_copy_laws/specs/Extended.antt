-- Lists grow by the items of other lists.
use Rattle.std.specs.Prelude.{◌≡◌, ℕ, List, [], ◌∷◌, ◌++◌, Option, Some, codes}
use Rattle.ann_element.specs.declared.element.Element.{Element}
use Rattle.rpy_meaning.specs.declared.row.Covers.{Covers}
use Rattle.rpy_meaning.specs.declared.row.RowOp.TheVariants as row
use Rattle.rtyper_layout.specs.declared.kind.Kind.TheVariants as kind
use Rattle.rtyper_layout.specs.Kinds.{kind_seen}
use Rattle.rtyper_data.specs.declared.small.Listed.TheVariants as listed
use Rattle.rtyper_data.specs.declared.small.Small.TheVariants as small
use Rattle.rtyper_data.specs.Seen.{Around, Operand, Place, Writing}
use Rattle.lower_laws.specs.Asked.{Ask, Make}
use Rattle.object_laws.specs.Known.{Known}
use Rattle.object_laws.specs.Staying.{Stays}
use Rattle.list_laws.specs.Done.{IsDone}
use Rattle.list_laws.specs.Lists.{IsList, there_asks}

-- where either list may be `None`, this is asked first
abbrev pub both_asks : Around → Operand → Operand → Covers → List Ask
both_asks around a b c = there_asks around a c ++ there_asks around b c

abbrev pub extend_asks : Around → Operand → Operand → ℕ → ℕ → Covers → List Ask
extend_asks around a b n m c = both_asks around a b c ++ Make (small.Listed (listed.Extend n m)) ∷ []

-- The items of the second list come behind those of the first, which may be the same list, at their cost.
abbrev pub ListsAreExtended : Type 0
ListsAreExtended = (site : Option ℕ) (known : Known) (around : Around) (place : Place) (a b : Operand) (w : Writing) (n m : ℕ) (item other : Element) → IsList around known a.element n item → IsList around known b.element m other → Stays around.layout known (Some other) (Some item) → kind_seen place.element ≡ kind.Nothing
    → IsDone known around (row.Method (codes "extend") site) w.found.covered (extend_asks around a b n m w.found.covered) place (a ∷ b ∷ []) w

-- `+=` does so, and gives the list
abbrev pub ListsAreAddedTo : Type 0
ListsAreAddedTo = (known : Known) (around : Around) (place : Place) (a b : Operand) (w : Writing) (n m : ℕ) (item other : Element) → IsList around known a.element n item → IsList around known b.element m other → Stays around.layout known (Some other) (Some item) → Stays around.layout known a.element place.element
    → IsDone known around row.AddTo w.found.covered (extend_asks around a b n m w.found.covered) place (a ∷ b ∷ []) w
