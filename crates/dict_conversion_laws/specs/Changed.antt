-- Entries of dicts are stored and deleted, where keys and values are converted on the way. `None`, as a key or a part of one, is left out
-- where the dict has an index.
use Rattle.std.specs.Prelude.{◌≡◌, ◌≢◌, ◌+◌, Some, ◌++◌, ℕ, [], ◌∷◌}
use Rattle.ann_element.specs.declared.element.Element.{Element}
use Rattle.rpy_meaning.specs.declared.row.RowOp.TheVariants as row
use Rattle.rtyper_layout.specs.declared.dicts.Mapping.{Mapping}
use Rattle.rtyper_layout.specs.declared.kind.Kind.TheVariants as kind
use Rattle.rtyper_layout.specs.Kinds.{kind_seen}
use Rattle.rtyper_data.specs.declared.small.Keyed.TheVariants as keyed
use Rattle.rtyper_data.specs.declared.small.Small.TheVariants as small
use Rattle.rtyper_data.specs.Seen.{Around, Operand, Place, kind_of, Writing}
use Rattle.object_laws.specs.Staying.{Stays}
use Rattle.conversion_laws.specs.Converted.{items_in, tuples_in}
use Rattle.conversion_laws.specs.Going.{Goes}
use Rattle.dict_find_laws.specs.Lookups.{HasValues}
use Rattle.dict_conversion_laws.specs.Operands.{operand_asks}
use Rattle.lower_laws.specs.Asked.{Make}
use Rattle.object_laws.specs.Known.{Known}
use Rattle.dict_change_laws.specs.Changed.{CanStore, KeysAreThere}
use Rattle.dict_conversion_laws.specs.Lookups.{IsAskedFor, IsTold, key_asks, key_blocks, key_references}

-- the entry of a key is taken out; a key that is missing raises
abbrev pub EntriesAreDeleted : Type 0
EntriesAreDeleted = (known : Known) (around : Around) (place : Place) (a b : Operand) (w : Writing) (n : ℕ) (m : Mapping) → IsAskedFor around known a b n m → kind_seen place.element ≡ kind.Nothing
    → IsTold (KeysAreThere m) (key_blocks known m) (key_references known m) known around row.DeleteIndex w.found.covered (key_asks around known a b m w.found.covered (Make (small.Keyed (keyed.Entry n)) ∷ Make (small.Keyed (keyed.Remove n)) ∷ [])) place (a ∷ b ∷ []) w

-- The value of a key is stored, and the result is that value; a new key is paid, and arrays without a free place are made anew. The value
-- goes to those of the mapping, and there is one; the result is the value before that.
abbrev pub ValuesAreStored : Type 0
ValuesAreStored = (known : Known) (around : Around) (place : Place) (a b c : Operand) (w : Writing) (n : ℕ) (m : Mapping) (value : Element) → IsAskedFor around known a b n m → HasValues around known m value → Goes around.layout known c.element (Some value) → kind_of c ≢ kind.Never → Stays around.layout known c.element place.element
    → IsTold (CanStore m) (key_blocks known m + (tuples_in (Some value) + 2)) (key_references known m + items_in (Some value)) known around row.StoreIndex w.found.covered
    (key_asks around known a b m w.found.covered (operand_asks around c (Some value) ++ Make (small.Keyed (keyed.Store n)) ∷ [])) place (a ∷ b ∷ c ∷ []) w
