-- An operation whose operand is converted before it is done.
use Rattle.std.specs.Prelude.{◌≡◌, ℕ, ◌+◌, false, List, ◌∷◌, ◌++◌, Option}
use Rattle.ann_element.specs.declared.element.Element.{Element}
use Rattle.rpy_tree.specs.Value.{Value as Meant}
use Rattle.rpy_meaning.specs.declared.row.Covers.{Covers}
use Rattle.rpy_meaning.specs.declared.row.RowOp.{RowOp}
use Rattle.rpy_meaning.specs.World.{World}
use Rattle.rtyper_layout.specs.declared.dicts.Mapping.{Mapping}
use Rattle.rtyper_layout.specs.Layout.{is_tuple}
use Rattle.rtyper_layout.specs.Types.{type_seen}
use Rattle.rtyper_data.specs.Seen.{Around, Operand, Place, type_of, Writing}
use Rattle.lower_laws.specs.Asked.{Ask}
use Rattle.object_laws.specs.Known.{Known}
use Rattle.conversion_laws.specs.Asked.{asks_for}
use Rattle.conversion_laws.specs.Converted.{converted, items_in, tuples_in}
use Rattle.conversion_laws.specs.Going.{Goes}
use Rattle.dict_conversion_laws.specs.Done.{IsDoneWhere}

-- the operand as a value of the other element, and what is written then
abbrev pub operand_as : Around → Operand → Option Element → Writing → Operand
operand_as around a to w = record { x = (converted around.layout a.element to a.x w).0; element = to }

abbrev pub written_for : Around → Operand → Option Element → Writing → Writing
written_for around a to w = (converted around.layout a.element to a.x w).1

abbrev pub operand_asks : Around → Operand → Option Element → List Ask
operand_asks around a to = asks_for around.layout (type_of around a) (type_seen around.layout to)

-- Where the operation is done of an operand of this element, behind what is written for its conversion, it is done of one that goes to the
-- element, with the blocks and references that the conversion makes and writes; the struct of strings is no tuple.
abbrev pub OperandsAreConverted : (World → List Meant → Type 0) → Type 0
OperandsAreConverted Good = (blocks more : ℕ) (known : Known) (around : Around) (o : RowOp) (covers : Covers) (asks : List Ask) (lowered : Writing) (place : Place) (before behind : List Operand) (a : Operand) (to : Option Element) (w : Writing)
    → is_tuple around.layout 0 ≡ false → Goes around.layout known a.element to
    → IsDoneWhere Good blocks more known around o covers asks lowered place (before ++ operand_as around a to w ∷ behind) (written_for around a to w)
    → IsDoneWhere Good (tuples_in to + blocks) (items_in to + more) known around o covers (operand_asks around a to ++ asks) lowered place (before ++ a ∷ behind) w

-- the same of values that may be asked of the dicts of a mapping
abbrev pub KeyedOperandsAreConverted : (Mapping → World → List Meant → Type 0) → Type 0
KeyedOperandsAreConverted Good = (m : Mapping) → OperandsAreConverted (Good m)
