-- What calls of the graphs that change dicts leave.
use Rattle.std.specs.Prelude.{◌≡◌, ◌<◌, ◌≤◌, ◌^◌, ℕ, ◌+◌, pos, true, List, [], ◌∷◌, ◌++◌, length, slice_get, slice_set, Option, Some, None}
use Rattle.csub_tree.specs.State.{Value, Unset, Word, Block, Core}
use Rattle.ll_code.specs.State.{Frame, Calling, Returning}
use Rattle.ll_code.specs.declared.program.LlProgram.{LlProgram}
use Rattle.ll_build.specs.declared.needs.Numbers.{Numbers}
use Rattle.ll_leads.specs.Memory.{forgotten}
use Rattle.ll_leads.specs.Path.{Leads}
use Rattle.rpy_tree.specs.Value.{Value as Meant, Mapped, Heap}
use Rattle.rpy_meaning.specs.Compare.{is_equal}
use Rattle.rpy_meaning.specs.Sequences.{without_key}
use Rattle.rtyper_layout.specs.declared.dicts.Mapping.{Mapping}
use Rattle.rtyper_layout.specs.declared.layout.Layout.{Layout}
use Rattle.rtyper_layout.specs.Dicts.{is_indexed, stored_value}
use Rattle.rtyper_layout.specs.Layout.{mapping_at}
use Rattle.rtyper_data.specs.declared.small.Keyed.TheVariants as keyed
use Rattle.dict_laws.specs.Keys.{position_from}
use Rattle.dict_laws.specs.Masks.{IsLength}
use Rattle.object_laws.specs.Dicts.{DictAt, as_item, keys_of}
use Rattle.object_laws.specs.Done.{HasLayout}
use Rattle.object_laws.specs.Ghost.{Ghost, Grown, DictOf}
use Rattle.object_laws.specs.Known.{Known}
use Rattle.object_laws.specs.Represents.{Represents}
use Rattle.object_laws.specs.Values.{Holds}
use Rattle.dict_op_laws.specs.Asked.{HasKeyed}
use Rattle.dict_find_laws.specs.Finding.{Answers, HasKeys, IsKey, as_key}
use Rattle.dict_change_laws.specs.Asked.{HasAdd, HasGrow, HasRemove}
use Rattle.dict_change_laws.specs.Changed.{AreThere}

-- The call comes back without a result, whatever waits, over memory of which this holds, with at most so many blocks more. No more references
-- are written than so many, and no step is paid.
pub record Leaves (p : LlProgram) (args : List (List ℕ)) (f : ℕ) (xs : List Value) (core : Core) (g : Ghost) (more most : ℕ) (Holds : Ghost → List (Option Block) → List Block → Type 0) : Type 0 where
  pub blocks : List (Option Block)
  pub statics : List Block
  pub ghost : Ghost
  pub grown : Grown g ghost
  pub holds : Holds ghost blocks statics
  pub few : length blocks ≤ length core.blocks + more
  pub returns : (waits : List Frame) → (end : Core) × ((forgotten end ≡ forgotten (record core { blocks = blocks; statics = statics })) × Leads p args most (Calling f xs waits core) [] (Returning Unset waits end))

-- the length of an index for so many places
abbrev pub LengthsAreReckoned : Type 0
LengthsAreReckoned = (layout : Layout) (p : LlProgram) (args : List (List ℕ)) (f places : ℕ) (core : Core) → HasKeyed p layout keyed.Size f → places < 2 ^ 62
    → (size : ℕ) × (IsLength places size × ((waits : List Frame) → Answers p args f (Word (pos places) ∷ []) core (Word (pos size)) waits))

-- a dict stands there, with its home
abbrev pub StandsAs : Ghost → ℕ → ℕ → Value → Type 0
StandsAs g n i head = slice_get g.homes i ≡ Some (record { sort = DictOf n; head = head })

-- where there is an index, no key is `None` or has such a part
abbrev pub AllThere : Mapping → List (Meant × Meant) → Type 0
AllThere m pairs = is_indexed m ≡ true → AreThere (keys_of pairs)

-- the heap is the same, and the dict has a free place
pub record HasPlace (layout : Layout) (known : Known) (heap : Heap) (left : ℕ) (m : Mapping) (i : ℕ) (head : Value) (pairs : List (Meant × Meant)) (g : Ghost) (blocks : List (Option Block)) (statics : List Block) : Type 0 where
  pub stands : Represents layout known g heap left blocks statics
  pub dict : DictAt layout known g heap blocks statics m i head
  pub same : dict.pairs ≡ pairs
  pub room : length dict.pairs < dict.places

-- room is made for one entry more
abbrev pub RoomIsMade : Type 0
RoomIsMade = (layout : Layout) (known : Known) (p : LlProgram) (numbers : Numbers) (raised : ℕ → Value) (args : List (List ℕ)) (n f : ℕ) (m : Mapping) (before core : Core) (g : Ghost) (heap : Heap) (left i : ℕ) (head : Value)
    → mapping_at layout.mappings n ≡ Some m → HasKeys layout known m → HasLayout p layout → HasGrow p layout numbers raised before n f → Represents layout known g heap left core.blocks core.statics → StandsAs g n i head
    → (d : DictAt layout known g heap core.blocks core.statics m i head) → AllThere m d.pairs → length d.pairs + 1 < 2 ^ 62
    → Leaves p args f (head ∷ []) core g 2 (length d.pairs + length d.pairs + 2) (HasPlace layout known heap left m i head d.pairs)

-- an entry with another key comes behind the last, where a place is free
abbrev pub EntriesAreAdded : Type 0
EntriesAreAdded = (layout : Layout) (known : Known) (p : LlProgram) (args : List (List ℕ)) (n f : ℕ) (m : Mapping) (core : Core) (g : Ghost) (heap : Heap) (left i : ℕ) (head x y : Value) (k v : Meant)
    → mapping_at layout.mappings n ≡ Some m → HasKeys layout known m → HasLayout p layout → HasAdd p layout n f → Represents layout known g heap left core.blocks core.statics → StandsAs g n i head
    → (d : DictAt layout known g heap core.blocks core.statics m i head) → length d.pairs < d.places → position_from is_equal 0 (keys_of d.pairs) k ≡ None → IsKey layout known g m x k → Holds layout known g (known.items m.dict) y v
    → Leaves p args f (head ∷ as_key m x ∷ as_item m.value (stored_value m) y ∷ []) core g 0 2 (λ ghost. Represents layout known ghost (slice_set heap i (Mapped (d.pairs ++ (k, v) ∷ []))) left)

-- the entry of a key is taken out, by its place
abbrev pub EntriesAreTakenOut : Type 0
EntriesAreTakenOut = (layout : Layout) (known : Known) (p : LlProgram) (raised : ℕ → Value) (args : List (List ℕ)) (n f : ℕ) (m : Mapping) (core : Core) (g : Ghost) (heap : Heap) (left i : ℕ) (head : Value) (k : Meant) (at : ℕ)
    → mapping_at layout.mappings n ≡ Some m → HasKeys layout known m → HasLayout p layout → HasRemove p layout raised n f → Represents layout known g heap left core.blocks core.statics → StandsAs g n i head
    → (d : DictAt layout known g heap core.blocks core.statics m i head) → AllThere m d.pairs → position_from is_equal 0 (keys_of d.pairs) k ≡ Some at
    → Leaves p args f (head ∷ Word (pos at) ∷ []) core g 0 (length d.pairs + length d.pairs) (λ ghost. Represents layout known ghost (slice_set heap i (Mapped (without_key k d.pairs))) left)
