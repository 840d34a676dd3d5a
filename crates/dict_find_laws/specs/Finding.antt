-- Where the key of an entry is looked for, and what that gives.
use Rattle.std.specs.Prelude.{◌≡◌, ◌==◌, ℕ, false, pos, negsuc, true, List, [], ◌∷◌, Option, Some, None}
use Rattle.ann_element.specs.declared.element.Element.{Element}
use Rattle.csub_tree.specs.State.{Value, Word, Core}
use Rattle.ll_code.specs.State.{Frame, Calling, Returning}
use Rattle.ll_code.specs.declared.program.LlType.TheVariants as type
use Rattle.ll_code.specs.declared.program.LlProgram.{LlProgram}
use Rattle.ll_build.specs.declared.needs.Numbers.{Numbers}
use Rattle.ll_leads.specs.Memory.{forgotten}
use Rattle.ll_leads.specs.Path.{Leads}
use Rattle.rpy_tree.specs.Value.{Value as Meant, Heap}
use Rattle.rpy_meaning.specs.Compare.{is_equal}
use Rattle.rtyper_layout.specs.declared.dicts.Mapping.{Mapping}
use Rattle.rtyper_layout.specs.declared.layout.Layout.{Layout}
use Rattle.rtyper_layout.specs.Dicts.{is_indexed, stored_key}
use Rattle.rtyper_layout.specs.Layout.{mapping_at}
use Rattle.rtyper_layout.specs.Types.{type_seen}
use Rattle.dict_laws.specs.Keys.{position_from}
use Rattle.object_laws.specs.Dicts.{DictAt, as_item, hash, keys_of}
use Rattle.object_laws.specs.Done.{HasLayout}
use Rattle.object_laws.specs.Ghost.{Ghost}
use Rattle.object_laws.specs.Known.{Known}
use Rattle.object_laws.specs.Represents.{Represents}
use Rattle.object_laws.specs.Values.{Holds}
use Rattle.dict_find_laws.specs.Asked.{HasFind, HasHash}
use Rattle.dict_find_laws.specs.Keys.{AreKeys, IsThere}

-- a call gives this value, whatever waits, and memory is as it was
pub record Answers (p : LlProgram) (args : List (List ℕ)) (f : ℕ) (xs : List Value) (core : Core) (value : Value) (waits : List Frame) : Type 0 where
  pub end : Core
  pub same : forgotten end ≡ forgotten core
  pub leads : Leads p args 0 (Calling f xs waits core) [] (Returning value waits end)

-- the keys of a mapping are words, truth values, bytes or strings, which may be missing, or tuples of such, and have its type of keys
pub record HasKeys (layout : Layout) (known : Known) (m : Mapping) : Type 0 where
  pub key : Element
  pub key_is : known.keys m.dict ≡ Some key
  pub are : AreKeys layout (Some key)
  pub typed : type_seen layout (Some key) ≡ m.key

-- a value is such a key; where there is an index neither it nor a part of it is `None`, which has no hash
pub record IsKey (layout : Layout) (known : Known) (g : Ghost) (m : Mapping) (x : Value) (v : Meant) : Type 0 where
  pub held : Holds layout known g (known.keys m.dict) x v
  pub there : is_indexed m ≡ true → IsThere v

-- the place of the entry of a key as a word, or -1
abbrev pub place_word : Option ℕ → Value
place_word None = Word (negsuc 0)
place_word (Some i) = Word (pos i)

-- a key as it stands in the array of the keys
abbrev pub as_key : Mapping → Value → Value
as_key m x = as_item m.key (stored_key m) x

-- The hash of a key that is not `None`, and has no such part, is taken.
abbrev pub KeysAreHashed : Type 0
KeysAreHashed = (layout : Layout) (known : Known) (p : LlProgram) (args : List (List ℕ)) (f : ℕ) (m : Mapping) (core : Core) (g : Ghost) (heap : Heap) (left : ℕ) (x : Value) (v : Meant)
    → HasKeys layout known m → HasLayout p layout → HasHash p layout (stored_key m) f → Represents layout known g heap left core.blocks core.statics → Holds layout known g (known.keys m.dict) x v → IsThere v
    → (waits : List Frame) → Answers p args f (as_key m x ∷ []) core (Word (hash layout m.key v)) waits

-- where keys are tuples, the statics and the steps left are those of when the graphs were known to stand
abbrev pub StandsStill : Mapping → Core → Core → Type 0
StandsStill m before core = (q : ℕ) → m.key ≡ type.Ptr q → (q == 0) ≡ false → (core.statics ≡ before.statics) × (core.steps ≡ before.steps)

-- Looking for a key, by the index or from the front, gives the place of its entry, or -1 where it has none.
abbrev pub KeysAreFound : Type 0
KeysAreFound = (layout : Layout) (known : Known) (p : LlProgram) (numbers : Numbers) (raised : ℕ → Value) (args : List (List ℕ)) (n f : ℕ) (m : Mapping) (before core : Core) (g : Ghost) (heap : Heap) (left i : ℕ) (head x : Value) (v : Meant)
    → mapping_at layout.mappings n ≡ Some m → HasKeys layout known m → HasLayout p layout → HasFind p layout numbers raised before n f → Represents layout known g heap left core.blocks core.statics
    → (d : DictAt layout known g heap core.blocks core.statics m i head) → IsKey layout known g m x v → StandsStill m before core
    → (waits : List Frame) → Answers p args f (head ∷ as_key m x ∷ []) core (place_word (position_from is_equal 0 (keys_of d.pairs) v)) waits
