-- Lists are made of the items of others.
use Rattle.std.specs.Prelude.{◌≡◌, ℕ, Bool, true, false, List, [], ◌∷◌, ◌++◌, Option, Some}
use Rattle.ann_element.specs.declared.element.Element.{Element}
use Rattle.rpy_tree.specs.declared.syntax.BinOp.TheVariants as bin
use Rattle.rpy_meaning.specs.declared.row.RowOp.TheVariants as row
use Rattle.rtyper_layout.specs.declared.kind.Kind.TheVariants as kind
use Rattle.rtyper_layout.specs.Layout.{is_list}
use Rattle.rtyper_data.specs.declared.small.Listed.TheVariants as listed
use Rattle.rtyper_data.specs.declared.small.Small.TheVariants as small
use Rattle.rtyper_data.specs.Seen.{Around, Operand, Place, kind_of, Writing}
use Rattle.lower_laws.specs.Asked.{Make}
use Rattle.object_laws.specs.Known.{Known}
use Rattle.object_laws.specs.Staying.{Stays}
use Rattle.list_laws.specs.Done.{IsDone}
use Rattle.list_laws.specs.Lists.{IsList, there_asks}
use Rattle.list_copy_laws.specs.Done.{IsDoneWithin, references_paid}
use Rattle.list_copy_laws.specs.Extended.{both_asks}

-- the place takes a list of this struct, of whose items this is known
pub record Takes (around : Around) (known : Known) (place : Place) (n : ℕ) (item : Element) : Type 0 where
  pub list : IsList around known place.element n item
  pub struct : is_list around.layout n ≡ true

-- the sum of two lists has the items of the first, and then those of the second
abbrev pub ListsAreJoined : Type 0
ListsAreJoined = (site : Option ℕ) (known : Known) (around : Around) (place : Place) (a b : Operand) (w : Writing) (l m n : ℕ) (item other result : Element) → IsList around known a.element l item → IsList around known b.element m other → Takes around known place n result
    → Stays around.layout known (Some item) (Some result) → Stays around.layout known (Some other) (Some result)
    → IsDone known around (row.Binary bin.Add site) w.found.covered (both_asks around a b w.found.covered ++ Make (small.Listed (listed.Concat l m n)) ∷ []) place (a ∷ b ∷ []) w

-- a list so many times, which is none where that is below zero
abbrev pub ListsAreRepeated : Type 0
ListsAreRepeated = (site : Option ℕ) (known : Known) (around : Around) (place : Place) (a b : Operand) (w : Writing) (l n : ℕ) (item result : Element) → IsList around known a.element l item → kind_of b ≡ kind.Word → Takes around known place n result → Stays around.layout known (Some item) (Some result)
    → IsDoneWithin references_paid known around (row.Binary bin.Mul site) w.found.covered (there_asks around a w.found.covered ++ Make (small.Listed (listed.Repeat l n)) ∷ []) place (a ∷ b ∷ []) w

-- the bounds that are there, which are words
abbrev pub AreBounds : Bool → Bool → List Operand → Type 0
AreBounds false false [] = Unit {0}
AreBounds true false (b ∷ []) = kind_of b ≡ kind.Word
AreBounds false true (b ∷ []) = kind_of b ≡ kind.Word
AreBounds true true (b ∷ c ∷ []) = (kind_of b ≡ kind.Word) × (kind_of c ≡ kind.Word)
AreBounds low high bounds = ⊥

-- a slice has the items between the bounds, which are cut at the end; one below zero fails
abbrev pub ListsAreSliced : Type 0
ListsAreSliced = (site : ℕ) (low high : Bool) (known : Known) (around : Around) (place : Place) (a : Operand) (bounds : List Operand) (w : Writing) (l n : ℕ) (item result : Element) → AreBounds low high bounds → IsList around known a.element l item → Takes around known place n result
    → Stays around.layout known (Some item) (Some result)
    → IsDone known around (row.Slice site low high) w.found.covered (there_asks around a w.found.covered ++ Make (small.Listed (listed.Slice l n)) ∷ []) place (a ∷ bounds) w

-- all items but the last
abbrev pub LastItemsAreLeftOut : Type 0
LastItemsAreLeftOut = (site : ℕ) (known : Known) (around : Around) (place : Place) (a : Operand) (w : Writing) (l n : ℕ) (item result : Element) → IsList around known a.element l item → Takes around known place n result → Stays around.layout known (Some item) (Some result)
    → IsDone known around (row.AllButLast site) w.found.covered (there_asks around a w.found.covered ++ Make (small.Listed (listed.ButLast l n)) ∷ []) place (a ∷ []) w
