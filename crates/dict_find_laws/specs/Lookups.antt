-- Keys are looked for in dicts, where no key and no value is converted on the way. `None`, as a key or a part of one, is left out where the
-- dict has an index.
use Rattle.std.specs.Prelude.{◌≡◌, ◌⊎◌, ℕ, ℤ, true, List, [], ◌∷◌, ◌++◌, Option, Some, codes}
use Rattle.ann_element.specs.declared.element.Element.{Element}
use Rattle.rpy_tree.specs.Value.{Value as Meant}
use Rattle.rpy_tree.specs.declared.syntax.CmpOp.{CmpOp}
use Rattle.rpy_meaning.specs.declared.row.Covers.{Covers}
use Rattle.rpy_meaning.specs.declared.row.RowOp.{RowOp}
use Rattle.rpy_meaning.specs.declared.row.RowOp.TheVariants as row
use Rattle.rpy_meaning.specs.World.{World}
use Rattle.rtyper_layout.specs.declared.dicts.Mapping.{Mapping}
use Rattle.rtyper_layout.specs.declared.kind.Kind.TheVariants as kind
use Rattle.rtyper_layout.specs.Dicts.{is_indexed}
use Rattle.rtyper_layout.specs.Kinds.{kind_seen}
use Rattle.rtyper_layout.specs.Types.{type_of as element_type, field_type}
use Rattle.rtyper_data.specs.declared.small.Keyed.TheVariants as keyed
use Rattle.rtyper_data.specs.declared.small.Small.TheVariants as small
use Rattle.rtyper_data.specs.Seen.{Around, Operand, Place, type_at, Writing}
use Rattle.rtyper_dict.specs.Lowering.{lower_dict_op}
use Rattle.lower_laws.specs.Asked.{Ask, Make}
use Rattle.object_laws.specs.Done.{IsDoneWhere}
use Rattle.object_laws.specs.Known.{Known}
use Rattle.object_laws.specs.Staying.{Stays}
use Rattle.object_laws.specs.Values.{may_be_missing}
use Rattle.dict_op_laws.specs.Dicts.{IsDictOf, there_asks}
use Rattle.dict_find_laws.specs.Asked.{Has}
use Rattle.dict_find_laws.specs.Finding.{HasKeys}
use Rattle.dict_find_laws.specs.Keys.{IsThere}

-- what is written asks for this, and does what the operation does of such values, with no block more
abbrev pub IsTold : (World → List Meant → Type 0) → Known → Around → RowOp → Covers → List Ask → Place → List Operand → Writing → Type 0
IsTold Good known around o covers asks place args w = IsDoneWhere Good (λ p. Has p around.layout) 0 known around o covers asks (lower_dict_op around o place args w) place args w

-- ---- dicts and keys

-- a dict of this mapping, in which this value is a key as it is
pub record IsAskedFor (around : Around) (known : Known) (a key : Operand) (n : ℕ) (m : Mapping) : Type 0 where
  pub dict : IsDictOf around a n m
  pub keys : HasKeys around.layout known m
  pub stays : Stays around.layout known key.element (known.keys m.dict)

-- of the values of a mapping this is known
pub record HasValues (around : Around) (known : Known) (m : Mapping) (value : Element) : Type 0 where
  pub value_is : known.items m.dict ≡ Some value
  pub typed : m.value ≡ field_type (element_type around.layout value)

-- where there is an index, neither the first operand, or the second one, nor a part of it is `None`
abbrev pub FirstIsThere : Mapping → World → List Meant → Type 0
FirstIsThere m world [] = Unit {0}
FirstIsThere m world (v ∷ vs) = is_indexed m ≡ true → IsThere v

abbrev pub SecondIsThere : Mapping → World → List Meant → Type 0
SecondIsThere m world [] = Unit {0}
SecondIsThere m world (v ∷ vs) = FirstIsThere m world vs

-- ---- what is done with them

-- whether a key has an entry; and the opposite
abbrev pub KeysAreLookedFor : CmpOp → Type 0
KeysAreLookedFor o = (known : Known) (around : Around) (place : Place) (a b : Operand) (w : Writing) (n : ℕ) (m : Mapping) → IsAskedFor around known b a n m → kind_seen place.element ≡ kind.Flag
    → IsTold (FirstIsThere m) known around (row.Compare o) w.found.covered (there_asks around b w.found.covered ++ Make (small.Keyed (keyed.Find n)) ∷ []) place (a ∷ b ∷ []) w

-- the value of a key; one that is missing raises
abbrev pub ValuesAreRead : Type 0
ValuesAreRead = (known : Known) (around : Around) (place : Place) (a b : Operand) (w : Writing) (literal : Option ℤ) (n : ℕ) (m : Mapping) (value : Element) → IsAskedFor around known a b n m → HasValues around known m value → Stays around.layout known (Some value) place.element
    → IsTold (SecondIsThere m) known around (row.Index literal) w.found.covered (there_asks around a w.found.covered ++ Make (small.Keyed (keyed.Entry n)) ∷ Make (small.Keyed (keyed.Value n)) ∷ []) place (a ∷ b ∷ []) w

-- what is asked for
abbrev pub get_asks : Around → Place → Operand → ℕ → Covers → List Ask
get_asks around place a n c = there_asks around a c ++ Make (small.Keyed (keyed.Get n (type_at around place))) ∷ []

-- the value of a key, or else another one
abbrev pub ValuesAreGot : Type 0
ValuesAreGot = (known : Known) (around : Around) (place : Place) (a b c : Operand) (w : Writing) (site : Option ℕ) (n : ℕ) (m : Mapping) (value : Element) → IsAskedFor around known a b n m → HasValues around known m value → Stays around.layout known (Some value) place.element → Stays around.layout known c.element place.element
    → IsTold (SecondIsThere m) known around (row.Method (codes "get") site) w.found.covered (get_asks around place a n w.found.covered) place (a ∷ b ∷ c ∷ []) w

-- the value of a key, or else `None`
abbrev pub ValuesAreGotOrNone : Type 0
ValuesAreGotOrNone = (known : Known) (around : Around) (place : Place) (a b : Operand) (w : Writing) (site : Option ℕ) (n : ℕ) (m : Mapping) (value : Element) → IsAskedFor around known a b n m → HasValues around known m value → Stays around.layout known (Some value) place.element
    → (kind_seen place.element ≡ kind.MaybeText) ⊎ (may_be_missing (kind_seen place.element) ≡ true)
    → IsTold (SecondIsThere m) known around (row.Method (codes "get") site) w.found.covered (get_asks around place a n w.found.covered) place (a ∷ b ∷ []) w
