-- Keys are looked for in dicts, where keys and values are converted on the way. `None`, as a key or a part of one, is left out where the dict
-- has an index.
use Rattle.std.specs.Prelude.{◌≡◌, ◌≢◌, ◌⊎◌, ℕ, ◌+◌, ℤ, true, false, List, [], ◌∷◌, ◌++◌, Option, Some, codes}
use Rattle.ann_element.specs.declared.element.Element.{Element}
use Rattle.rpy_tree.specs.Value.{Value as Meant}
use Rattle.rpy_tree.specs.declared.syntax.CmpOp.{CmpOp}
use Rattle.rpy_meaning.specs.declared.row.Covers.{Covers}
use Rattle.rpy_meaning.specs.declared.row.RowOp.{RowOp}
use Rattle.rpy_meaning.specs.declared.row.RowOp.TheVariants as row
use Rattle.rpy_meaning.specs.World.{World}
use Rattle.rtyper_layout.specs.declared.dicts.Mapping.{Mapping}
use Rattle.rtyper_layout.specs.declared.kind.Kind.TheVariants as kind
use Rattle.rtyper_layout.specs.Kinds.{kind_seen}
use Rattle.rtyper_layout.specs.Layout.{is_tuple}
use Rattle.rtyper_layout.specs.Types.{type_seen}
use Rattle.rtyper_data.specs.declared.small.Keyed.TheVariants as keyed
use Rattle.rtyper_data.specs.declared.small.Small.TheVariants as small
use Rattle.rtyper_data.specs.Seen.{Around, Operand, Place, type_at, Writing}
use Rattle.rtyper_dict.specs.Lowering.{lower_dict_op}
use Rattle.lower_laws.specs.Asked.{Ask, Make}
use Rattle.object_laws.specs.Known.{Known}
use Rattle.object_laws.specs.Staying.{Stays}
use Rattle.object_laws.specs.Values.{may_be_missing}
use Rattle.conversion_laws.specs.Asked.{asks_for}
use Rattle.conversion_laws.specs.Converted.{items_in, tuples_in}
use Rattle.conversion_laws.specs.Going.{Goes}
use Rattle.dict_op_laws.specs.Dicts.{IsDictOf, there_asks}
use Rattle.dict_find_laws.specs.Finding.{HasKeys}
use Rattle.dict_find_laws.specs.Lookups.{FirstIsThere, HasValues, SecondIsThere}
use Rattle.dict_conversion_laws.specs.Done.{IsDoneWhere}
use Rattle.dict_conversion_laws.specs.Operands.{operand_asks}

-- what is written asks for this, and does what the operation does of such values, with so many blocks more, and so many references
abbrev pub IsTold : (World → List Meant → Type 0) → ℕ → ℕ → Known → Around → RowOp → Covers → List Ask → Place → List Operand → Writing → Type 0
IsTold Good blocks more known around o covers asks place args w = IsDoneWhere Good blocks more known around o covers asks (lower_dict_op around o place args w) place args w

-- a dict of this mapping, of whose keys a value goes to one; the struct of strings is no tuple
pub record IsAskedFor (around : Around) (known : Known) (a key : Operand) (n : ℕ) (m : Mapping) : Type 0 where
  pub dict : IsDictOf around a n m
  pub keys : HasKeys around.layout known m
  pub goes : Goes around.layout known key.element (known.keys m.dict)
  pub apart : is_tuple around.layout 0 ≡ false

-- what the conversion of a key makes and writes
abbrev pub key_blocks : Known → Mapping → ℕ
key_blocks known m = tuples_in (known.keys m.dict)

abbrev pub key_references : Known → Mapping → ℕ
key_references known m = items_in (known.keys m.dict)

-- that the dict is there is asked first, where it may be missing, and then the key is converted
abbrev pub key_asks : Around → Known → Operand → Operand → Mapping → Covers → List Ask → List Ask
key_asks around known a key m c asks = there_asks around a c ++ (operand_asks around key (known.keys m.dict) ++ asks)

-- whether a key has an entry; and the opposite
abbrev pub KeysAreLookedFor : CmpOp → Type 0
KeysAreLookedFor o = (known : Known) (around : Around) (place : Place) (a b : Operand) (w : Writing) (n : ℕ) (m : Mapping) → IsAskedFor around known b a n m → kind_seen place.element ≡ kind.Flag
    → IsTold (FirstIsThere m) (key_blocks known m) (key_references known m) known around (row.Compare o) w.found.covered (key_asks around known b a m w.found.covered (Make (small.Keyed (keyed.Find n)) ∷ [])) place (a ∷ b ∷ []) w

-- the value of a key; one that is missing raises
abbrev pub ValuesAreRead : Type 0
ValuesAreRead = (known : Known) (around : Around) (place : Place) (a b : Operand) (w : Writing) (literal : Option ℤ) (n : ℕ) (m : Mapping) (value : Element) → IsAskedFor around known a b n m → HasValues around known m value → Stays around.layout known (Some value) place.element
    → IsTold (SecondIsThere m) (key_blocks known m) (key_references known m) known around (row.Index literal) w.found.covered (key_asks around known a b m w.found.covered (Make (small.Keyed (keyed.Entry n)) ∷ Make (small.Keyed (keyed.Value n)) ∷ [])) place (a ∷ b ∷ []) w

-- the same, where the value is converted to the place, and there is one
abbrev pub ValuesAreReadAs : Type 0
ValuesAreReadAs = (known : Known) (around : Around) (place : Place) (a b : Operand) (w : Writing) (literal : Option ℤ) (n : ℕ) (m : Mapping) (value : Element) → IsAskedFor around known a b n m → HasValues around known m value → Goes around.layout known (Some value) place.element → kind_seen (Some value) ≢ kind.Never
    → IsTold (SecondIsThere m) (key_blocks known m + tuples_in place.element) (key_references known m + items_in place.element) known around (row.Index literal) w.found.covered
    (key_asks around known a b m w.found.covered (Make (small.Keyed (keyed.Entry n)) ∷ Make (small.Keyed (keyed.Value n)) ∷ asks_for around.layout (type_seen around.layout (Some value)) (type_at around place))) place (a ∷ b ∷ []) w

-- the value of a key, or else another one, which is converted to the place
abbrev pub ValuesAreGot : Type 0
ValuesAreGot = (known : Known) (around : Around) (place : Place) (a b c : Operand) (w : Writing) (site : Option ℕ) (n : ℕ) (m : Mapping) (value : Element) → IsAskedFor around known a b n m → HasValues around known m value → Stays around.layout known (Some value) place.element → Goes around.layout known c.element place.element
    → IsTold (SecondIsThere m) (key_blocks known m + tuples_in place.element) (key_references known m + items_in place.element) known around (row.Method (codes "get") site) w.found.covered
    (key_asks around known a b m w.found.covered (operand_asks around c place.element ++ Make (small.Keyed (keyed.Get n (type_at around place))) ∷ [])) place (a ∷ b ∷ c ∷ []) w

-- the same, where both are converted to the place, and there are values
abbrev pub ValuesAreGotAs : Type 0
ValuesAreGotAs = (known : Known) (around : Around) (place : Place) (a b c : Operand) (w : Writing) (site : Option ℕ) (n : ℕ) (m : Mapping) (value : Element) → IsAskedFor around known a b n m → HasValues around known m value → Goes around.layout known (Some value) place.element → kind_seen (Some value) ≢ kind.Never
    → Goes around.layout known c.element place.element
    → IsTold (SecondIsThere m) (key_blocks known m + (tuples_in place.element + tuples_in place.element)) (key_references known m + (items_in place.element + items_in place.element)) known around (row.Method (codes "get") site) w.found.covered
    (key_asks around known a b m w.found.covered (operand_asks around c place.element ++ Make (small.Keyed (keyed.Get n (type_at around place))) ∷ [])) place (a ∷ b ∷ c ∷ []) w

-- the value of a key, or else `None`
abbrev pub ValuesAreGotOrNone : Type 0
ValuesAreGotOrNone = (known : Known) (around : Around) (place : Place) (a b : Operand) (w : Writing) (site : Option ℕ) (n : ℕ) (m : Mapping) (value : Element) → IsAskedFor around known a b n m → HasValues around known m value → Stays around.layout known (Some value) place.element
    → (kind_seen place.element ≡ kind.MaybeText) ⊎ (may_be_missing (kind_seen place.element) ≡ true)
    → IsTold (SecondIsThere m) (key_blocks known m) (key_references known m) known around (row.Method (codes "get") site) w.found.covered (key_asks around known a b m w.found.covered (Make (small.Keyed (keyed.Get n (type_at around place))) ∷ [])) place (a ∷ b ∷ []) w
