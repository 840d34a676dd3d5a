-- Whether tuples are among the items of lists.
use Rattle.std.specs.Prelude.{◌≡◌, ℕ, false, List, [], ◌∷◌, ◌++◌, Some}
use Rattle.ann_element.specs.declared.element.Element.{Element}
use Rattle.rpy_tree.specs.declared.syntax.CmpOp.{CmpOp}
use Rattle.rpy_meaning.specs.declared.row.RowOp.TheVariants as row
use Rattle.ll_code.specs.declared.program.LlType.TheVariants as type
use Rattle.rtyper_layout.specs.declared.kind.Kind.TheVariants as kind
use Rattle.rtyper_layout.specs.Kinds.{kind_seen}
use Rattle.rtyper_layout.specs.Layout.{is_tuple}
use Rattle.rtyper_data.specs.declared.small.Listed.TheVariants as listed
use Rattle.rtyper_data.specs.declared.small.Small.TheVariants as small
use Rattle.rtyper_data.specs.Seen.{Around, Operand, Place, Writing}
use Rattle.rtyper_list.specs.Lowering.{lower_list_op}
use Rattle.lower_laws.specs.Asked.{Make}
use Rattle.object_laws.specs.Done.{IsDone}
use Rattle.object_laws.specs.Known.{Known}
use Rattle.conversion_laws.specs.Going.{IsTuple}
use Rattle.list_laws.specs.Lists.{IsList, there_asks}
use Rattle.list_tuple_laws.specs.Alike.{AllAlike}
use Rattle.list_tuple_laws.specs.Asked.{Has}

-- Whether a tuple is equal to one of the items, which are tuples of as many items, that may be compared with its own, one by one; and the
-- opposite. No block is made. The struct of strings is no tuple.
abbrev pub TuplesAreAmong : CmpOp → Type 0
TuplesAreAmong o = (known : Known) (around : Around) (place : Place) (a b : Operand) (w : Writing) (n q r : ℕ) (item : Element) (parts others : List Element)
    → is_tuple around.layout 0 ≡ false → IsTuple around.layout a.element q others → IsTuple around.layout (Some item) r parts → AllAlike around.layout parts others → IsList around known b.element n item → kind_seen place.element ≡ kind.Flag
    → IsDone (λ p. Has p around.layout) 0 known around (row.Compare o) w.found.covered (there_asks around b w.found.covered ++ Make (small.Listed (listed.Contains (type.Ptr q) n)) ∷ []) (lower_list_op around (row.Compare o) place (a ∷ b ∷ []) w) place (a ∷ b ∷ []) w
