-- Whether values are among the items of lists.
use Rattle.std.specs.Prelude.{◌≡◌, ℕ, true, [], ◌∷◌, ◌++◌, Some}
use Rattle.ann_element.specs.declared.element.Element.{Element}
use Rattle.rpy_tree.specs.declared.syntax.CmpOp.{CmpOp}
use Rattle.rpy_meaning.specs.declared.row.RowOp.TheVariants as row
use Rattle.rtyper_layout.specs.declared.kind.Kind.TheVariants as kind
use Rattle.rtyper_layout.specs.Kinds.{kind_seen}
use Rattle.rtyper_layout.specs.Types.{type_seen}
use Rattle.rtyper_data.specs.declared.small.Listed.TheVariants as listed
use Rattle.rtyper_data.specs.declared.small.Small.TheVariants as small
use Rattle.rtyper_data.specs.Seen.{Around, Operand, Place, kind_of, type_of, Writing}
use Rattle.lower_laws.specs.Asked.{Make}
use Rattle.lower_laws.specs.Values.{is_plain}
use Rattle.object_laws.specs.Known.{Known}
use Rattle.list_laws.specs.Lists.{IsList, there_asks}
use Rattle.list_laws.specs.Presence.{IsTold}

-- whether a word, a truth value, a byte or a string, which may be missing, is equal to one of the items, of its type; and the opposite
abbrev pub ValuesAreAmong : CmpOp → Type 0
ValuesAreAmong o = (known : Known) (around : Around) (place : Place) (a b : Operand) (w : Writing) (n : ℕ) (item : Element) → is_plain (kind_of a) ≡ true → is_plain (kind_seen (Some item)) ≡ true → type_seen around.layout (Some item) ≡ type_of around a → IsList around known b.element n item → kind_seen place.element ≡ kind.Flag
    → IsTold known around (row.Compare o) w.found.covered (there_asks around b w.found.covered ++ Make (small.Listed (listed.Contains (type_of around a) n)) ∷ []) place (a ∷ b ∷ []) w
