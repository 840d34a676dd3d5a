-- The keys of a dict, as they stand in its arrays, have the hashes that their graph gives.
use Rattle.dict_find_laws.specs.Keys.{IsThere}
use Rattle.std.proofs.Common.{◌≡◌, ◌<◌, ℕ, suc, ◌^◌, Bool, true, false, List, [], ◌∷◌, ◌++◌, length, map, Option, Some, ℤ, refl, ap}
use Rattle.std.specs.Prelude.{if◌then◌else◌}
use Rattle.csub_tree.specs.State.{Value, Unset, Word, Byte, Flag, Fun, Null, Ptr, Static, Block, Core}
use Rattle.csub_tree.specs.Operation.{is_unset}
use Rattle.ll_code.specs.State.{Frame, Calling}
use Rattle.ll_code.specs.declared.program.LlType.{LlType}
use Rattle.ll_code.specs.declared.program.LlProgram.{LlProgram}
use Rattle.ll_held.specs.Held.{is_reference}
use Rattle.ll_leads.proofs.Ways.{Comes}
use Rattle.ll_texts.specs.Texts.{found}
use Rattle.rpy_tree.specs.Value.{Value as Meant}
use Rattle.rtyper_layout.specs.declared.dicts.Mapping.{Mapping}
use Rattle.rtyper_layout.specs.declared.layout.Layout.{Layout}
use Rattle.rtyper_layout.specs.Dicts.{stored_key}
use Rattle.rtyper_data.specs.Finding.{same_type}
use Rattle.dict_laws.specs.Index.{AllBelow}
use Rattle.dict_laws.specs.Masks.{MasksLead, place_of}
use Rattle.object_laws.specs.Dicts.{as_word, as_item, hash}
use Rattle.object_laws.specs.Ghost.{Ghost, use_of, Stays}
use Rattle.object_laws.specs.Known.{Known}
use Rattle.object_laws.specs.Values.{Holds, EachHolds, Empty, More}
use Rattle.list_laws.proofs.Copying.{AllSet}
use Rattle.dict_change_laws.specs.Changed.{AreThere}
use Rattle.dict_change_laws.proofs.Hashed.{AllHashed, None as NoneHashed, More as MoreHashed}

-- what stays is what it is
abbrev pub Staying : Ghost → List (Option Block) → List Block → Type 0
Staying g blocks statics = (x : Value) (block : Block) → use_of g x ≡ Some (Stays block) → found blocks statics x ≡ Some block

-- a call of the graph with a key that is not `None` gives its hash, wherever what stays is what it is
abbrev pub Hashes : LlProgram → List (List ℕ) → Layout → Known → Mapping → ℕ → Type 0
Hashes p args layout known m h = (g : Ghost) (core : Core) (waits : List Frame) (x : Value) (v : Meant) → Staying g core.blocks core.statics → Holds layout known g (known.keys m.dict) x v → IsThere v
    → Comes p args (Calling h (as_item m.key (stored_key m) x ∷ []) waits core) [] (Word (hash layout m.key v)) waits core

-- ---- items

word_set : (x : Value) → is_unset x ≡ false → is_unset (as_word x) ≡ false
word_set (Flag b) h = refl
word_set (Byte b) h = refl
word_set Unset h = h
word_set (Word z) h = refl
word_set (Fun f) h = refl
word_set Null h = refl
word_set (Ptr n) h = refl
word_set (Static s) h = refl

pub item_set : (kind item : LlType) (x : Value) → is_unset x ≡ false → is_unset (as_item kind item x) ≡ false
item_set kind item x h = by (same_type item kind)
  where
    by : (c : Bool) → is_unset (if c then x else as_word x) ≡ false
    by true = h
    by false = word_set x h

word_empty : (x : Value) → is_reference x ≡ false → is_reference (as_word x) ≡ false
word_empty (Flag b) h = refl
word_empty (Byte b) h = refl
word_empty Unset h = h
word_empty (Word z) h = refl
word_empty (Fun f) h = h
word_empty Null h = h
word_empty (Ptr n) h = h
word_empty (Static s) h = h

pub items_set : (kind item : LlType) (xs : List Value) → AllSet xs → AllSet (map (as_item kind item) xs)
items_set kind item [] h = tt
items_set kind item (x ∷ xs) h = (item_set kind item x h.0, items_set kind item xs h.1)

pub map_both : {A B : Type 0} (f : A → B) (xs ys : List A) → map f (xs ++ ys) ≡ map f xs ++ map f ys
map_both f [] ys = refl
map_both f (x ∷ xs) ys = ap (λ l. f x ∷ l) (map_both f xs ys)

pub map_long : {A B : Type 0} (f : A → B) (xs : List A) → length (map f xs) ≡ length xs
map_long f [] = refl
map_long f (x ∷ xs) = ap suc (map_long f xs)

-- ---- hashes

module _ (p : LlProgram) (args : List (List ℕ)) (layout : Layout) (known : Known) (g : Ghost) (m : Mapping) (h : ℕ) (hashes : Hashes p args layout known m h) where
  pub all_hashed : {xs : List Value} {vs : List Meant} → EachHolds layout known g (known.keys m.dict) xs vs → AllSet xs → AreThere vs → AllHashed p args (Staying g) h (map (as_item m.key (stored_key m)) xs) (map (hash layout m.key) vs)
  all_hashed Empty set there = NoneHashed
  all_hashed (More {x = x} {v = v} held each) set there = MoreHashed (λ core waits stays. hashes g core waits x v stays held there.0) (item_set m.key (stored_key m) x set.0) (all_hashed each set.1 there.1)

pub all_below : (masks : MasksLead) (bits : ℕ) → bits < 63 → (zs : List ℤ) → AllBelow (2 ^ bits) (map (place_of bits) zs)
all_below masks bits few [] = tt
all_below masks bits few (z ∷ zs) = (((masks bits few).0 z).1, all_below masks bits few zs)
