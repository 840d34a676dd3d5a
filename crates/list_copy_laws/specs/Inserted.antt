-- Items are inserted into lists.
use Rattle.std.specs.Prelude.{◌≡◌, ℕ, [], ◌∷◌, ◌++◌, Option, Some, codes}
use Rattle.ann_element.specs.declared.element.Element.{Element}
use Rattle.rpy_meaning.specs.declared.row.RowOp.TheVariants as row
use Rattle.rtyper_layout.specs.declared.kind.Kind.TheVariants as kind
use Rattle.rtyper_layout.specs.Kinds.{kind_seen}
use Rattle.rtyper_data.specs.declared.small.Listed.TheVariants as listed
use Rattle.rtyper_data.specs.declared.small.Small.TheVariants as small
use Rattle.rtyper_data.specs.Seen.{Around, Operand, Place, kind_of, Writing}
use Rattle.lower_laws.specs.Asked.{Make}
use Rattle.object_laws.specs.Known.{Known}
use Rattle.object_laws.specs.Staying.{Stays}
use Rattle.list_laws.specs.Lists.{IsList, there_asks}
use Rattle.list_copy_laws.specs.Done.{IsDoneWithin, references_moved}

-- an item is inserted before a place, at its cost, and the later ones move up; behind the end is the end, and below zero fails
abbrev pub ItemsAreInserted : Type 0
ItemsAreInserted = (site : Option ℕ) (known : Known) (around : Around) (place : Place) (a b c : Operand) (w : Writing) (n : ℕ) (item : Element) → IsList around known a.element n item → kind_of b ≡ kind.Word → Stays around.layout known c.element (Some item) → kind_seen place.element ≡ kind.Nothing
    → IsDoneWithin references_moved known around (row.Method (codes "insert") site) w.found.covered (there_asks around a w.found.covered ++ Make (small.Listed (listed.Insert n)) ∷ []) place (a ∷ b ∷ c ∷ []) w
