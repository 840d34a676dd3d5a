-- Lists are made of the keys or the values of dicts, where none of them is converted on the way. They may have any type.
use Rattle.std.specs.Prelude.{◌≡◌, ℕ, List, [], ◌∷◌, ◌++◌, Option, Some}
use Rattle.ann_element.specs.declared.element.Element.{Element}
use Rattle.rpy_meaning.specs.declared.row.Covers.{Covers}
use Rattle.rpy_meaning.specs.declared.row.RowOp.{RowOp}
use Rattle.rpy_meaning.specs.declared.row.RowOp.TheVariants as row
use Rattle.rtyper_layout.specs.declared.dicts.Mapping.{Mapping}
use Rattle.rtyper_layout.specs.Types.{type_of as element_type, field_type}
use Rattle.rtyper_data.specs.declared.small.Keyed.TheVariants as keyed
use Rattle.rtyper_data.specs.declared.small.Small.TheVariants as small
use Rattle.rtyper_data.specs.Seen.{Around, Operand, Place, Writing}
use Rattle.rtyper_dict.specs.Lowering.{lower_dict_op}
use Rattle.lower_laws.specs.Asked.{Ask, Make}
use Rattle.object_laws.specs.Done.{IsDone}
use Rattle.object_laws.specs.Known.{Known}
use Rattle.object_laws.specs.Staying.{Stays}
use Rattle.dict_op_laws.specs.Dicts.{IsDictOf, there_asks}
use Rattle.list_copy_laws.specs.Joined.{Takes}
use Rattle.dict_find_laws.specs.Asked.{Has}
use Rattle.dict_find_laws.specs.Lookups.{HasValues}

-- what is written asks for this, and does what the operation does, with at most two blocks more
abbrev pub IsListed : Known → Around → RowOp → Covers → List Ask → Place → List Operand → Writing → Type 0
IsListed known around o covers asks place args w = IsDone (λ p. Has p around.layout) 2 known around o covers asks (lower_dict_op around o place args w) place args w

-- of the keys of a mapping this is known
pub record KeysAre (around : Around) (known : Known) (m : Mapping) (key : Element) : Type 0 where
  pub key_is : known.keys m.dict ≡ Some key
  pub typed : m.key ≡ field_type (element_type around.layout key)

-- a list of the keys, in order of insertion, at its cost
abbrev pub KeysAreListed : RowOp → Type 0
KeysAreListed o = (known : Known) (around : Around) (place : Place) (a : Operand) (w : Writing) (n l : ℕ) (m : Mapping) (key item : Element) → IsDictOf around a n m → KeysAre around known m key → Takes around known place l item → Stays around.layout known (Some key) (Some item)
    → IsListed known around o w.found.covered (there_asks around a w.found.covered ++ Make (small.Keyed (keyed.Keys n l)) ∷ []) place (a ∷ []) w

-- a list of the values, in the order of their keys, at its cost
abbrev pub ValuesAreListed : RowOp → Type 0
ValuesAreListed o = (known : Known) (around : Around) (place : Place) (a : Operand) (w : Writing) (n l : ℕ) (m : Mapping) (value item : Element) → IsDictOf around a n m → HasValues around known m value → Takes around known place l item → Stays around.layout known (Some value) (Some item)
    → IsListed known around o w.found.covered (there_asks around a w.found.covered ++ Make (small.Keyed (keyed.Values n l)) ∷ []) place (a ∷ []) w

-- by a method of this name, and where a dict is walked, which is a walk over the list of its keys
abbrev pub MethodsListKeys : List ℕ → Type 0
MethodsListKeys name = (site : Option ℕ) → KeysAreListed (row.Method name site)

abbrev pub WalksListKeys : Type 0
WalksListKeys = (site : ℕ) → KeysAreListed (row.Walk site)

abbrev pub MethodsListValues : List ℕ → Type 0
MethodsListValues name = (site : Option ℕ) → ValuesAreListed (row.Method name site)
