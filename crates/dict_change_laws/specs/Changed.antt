-- Entries of dicts are stored and deleted, where no key and no value is converted on the way. `None`, as a key or a part of one, is left out
-- where the dict has an index.
use Rattle.std.specs.Prelude.{◌≡◌, ◌<◌, ◌^◌, ℕ, ◌+◌, true, List, [], ◌∷◌, ◌++◌, slice_get, Some}
use Rattle.ann_element.specs.declared.element.Element.{Element}
use Rattle.rpy_tree.specs.Value.{Value as Meant, Ref, Mapped}
use Rattle.rpy_meaning.specs.declared.row.Covers.{Covers}
use Rattle.rpy_meaning.specs.declared.row.RowOp.{RowOp}
use Rattle.rpy_meaning.specs.declared.row.RowOp.TheVariants as row
use Rattle.rpy_meaning.specs.Laws.{size_at}
use Rattle.rpy_meaning.specs.World.{World}
use Rattle.rtyper_layout.specs.declared.dicts.Mapping.{Mapping}
use Rattle.rtyper_layout.specs.declared.kind.Kind.TheVariants as kind
use Rattle.rtyper_layout.specs.Dicts.{is_indexed}
use Rattle.rtyper_layout.specs.Kinds.{kind_seen}
use Rattle.rtyper_data.specs.declared.small.Keyed.TheVariants as keyed
use Rattle.rtyper_data.specs.declared.small.Small.TheVariants as small
use Rattle.rtyper_data.specs.Seen.{Around, Operand, Place, Writing}
use Rattle.rtyper_dict.specs.Lowering.{lower_dict_op}
use Rattle.lower_laws.specs.Asked.{Ask, Make}
use Rattle.object_laws.specs.Dicts.{keys_of}
use Rattle.object_laws.specs.Done.{IsDoneWhere}
use Rattle.object_laws.specs.Known.{Known}
use Rattle.object_laws.specs.Staying.{Stays}
use Rattle.dict_op_laws.specs.Dicts.{there_asks}
use Rattle.dict_find_laws.specs.Keys.{IsThere}
use Rattle.dict_find_laws.specs.Lookups.{IsAskedFor, HasValues}
use Rattle.dict_change_laws.specs.Asked.{Has}

-- what is written asks for this, and does what the operation does of such values in such a world, with at most so many blocks more
abbrev pub IsTold : (World → List Meant → Type 0) → ℕ → Known → Around → RowOp → Covers → List Ask → Place → List Operand → Writing → Type 0
IsTold Good blocks known around o covers asks place args w = IsDoneWhere Good (λ p. Has p around.layout) blocks known around o covers asks (lower_dict_op around o place args w) place args w

-- none of them is `None`, or has such a part
abbrev pub AreThere : List Meant → Type 0
AreThere [] = Unit {0}
AreThere (v ∷ vs) = IsThere v × AreThere vs

-- where the dict has an index, neither the key nor one that it has is `None` or has such a part, which have no hash
abbrev pub KeysAreThere : Mapping → World → List Meant → Type 0
KeysAreThere m world (Ref r ∷ key ∷ vs) = is_indexed m ≡ true → IsThere key × ((pairs : List (Meant × Meant)) → slice_get world.heap r ≡ Some (Mapped pairs) → AreThere (keys_of pairs))
KeysAreThere m world vs = Unit {0}

-- The number of entries, with one for each step that is left, is less than that of the places that there may be. This stays so, since what
-- dicts grow by is paid.
abbrev pub EntriesAreFew : World → List Meant → Type 0
EntriesAreFew world (Ref r ∷ vs) = size_at (slice_get world.heap r) + world.left < 2 ^ 62
EntriesAreFew world vs = Unit {0}

abbrev pub CanStore : Mapping → World → List Meant → Type 0
CanStore m world vs = KeysAreThere m world vs × EntriesAreFew world vs

-- the value of a key is stored, and the result is that value; a new key is paid, and arrays without a free place are made anew
abbrev pub ValuesAreStored : Type 0
ValuesAreStored = (known : Known) (around : Around) (place : Place) (a b c : Operand) (w : Writing) (n : ℕ) (m : Mapping) (value : Element) → IsAskedFor around known a b n m → HasValues around known m value → Stays around.layout known c.element (Some value) → Stays around.layout known c.element place.element
    → IsTold (CanStore m) 2 known around row.StoreIndex w.found.covered (there_asks around a w.found.covered ++ Make (small.Keyed (keyed.Store n)) ∷ []) place (a ∷ b ∷ c ∷ []) w

-- the entry of a key is taken out; a key that is missing raises
abbrev pub EntriesAreDeleted : Type 0
EntriesAreDeleted = (known : Known) (around : Around) (place : Place) (a b : Operand) (w : Writing) (n : ℕ) (m : Mapping) → IsAskedFor around known a b n m → kind_seen place.element ≡ kind.Nothing
    → IsTold (KeysAreThere m) 0 known around row.DeleteIndex w.found.covered (there_asks around a w.found.covered ++ Make (small.Keyed (keyed.Entry n)) ∷ Make (small.Keyed (keyed.Remove n)) ∷ []) place (a ∷ b ∷ []) w
