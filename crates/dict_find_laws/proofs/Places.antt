-- Looking by the index finds the place of the key, where the memory is a dict.
use Rattle.std.proofs.Common.{◌≡◌, ◌<◌, ◌≤◌, ◌⊎◌, inl, inr, ℕ, ◌-◌, ◌^◌, ℤ, Bool, true, false, List, [], ◌∷◌, ◌++◌, length, map, refl, sym, ap, ◌∙◌, subst, arith, length-append}
use Rattle.std.specs.Prelude.{if◌then◌else◌}
use Rattle.std.proofs.lemmas.List.{length-map}
use Rattle.csub_tree.specs.State.{Value, Word, Core}
use Rattle.csub_tree.specs.Operation.{is_unset}
use Rattle.ll_code.specs.State.{Frame, Calling}
use Rattle.ll_code.specs.declared.program.LlType.{LlType}
use Rattle.ll_code.specs.declared.program.LlOp.{LlOp}
use Rattle.ll_code.specs.declared.program.LlProgram.{LlProgram}
use Rattle.ll_leads.proofs.Ways.{Comes}
use Rattle.rpy_tree.specs.Value.{Value as Meant, Heap}
use Rattle.rpy_meaning.specs.Compare.{is_equal}
use Rattle.rtyper_layout.specs.declared.dicts.Mapping.{Mapping}
use Rattle.rtyper_layout.specs.declared.layout.Layout.{Layout}
use Rattle.rtyper_layout.specs.Dicts.{is_indexed, keys_last, stored_key, stored_value}
use Rattle.dict_laws.specs.Index.{IsRight}
use Rattle.dict_laws.specs.Keys.{has_key, position_from}
use Rattle.dict_laws.specs.Masks.{place_of}
use Rattle.object_laws.specs.Dicts.{Arrays, DictAt, IsIndex, IsIndexIf, Lacks, as_item, hash, in_second, keys_of}
use Rattle.object_laws.specs.Done.{HasDict}
use Rattle.object_laws.specs.Ghost.{Ghost}
use Rattle.object_laws.specs.Known.{Known}
use Rattle.object_laws.proofs.Blocks.{found_set}
use Rattle.object_laws.proofs.Valued.{each_long}
use Rattle.dict_find_laws.specs.Finding.{place_word}
use Rattle.dict_find_laws.proofs.Alike.{same_start, same_both}
use Rattle.dict_find_laws.proofs.Indexed.{ReadsFirst, key_found, none_found, types}
use Rattle.dict_laws.proofs.Looking.{looking_ends}
use Rattle.dict_laws.proofs.Masked.{masks_lead}
use Rattle.dict_laws.proofs.Placing.{finds_places}
use Rattle.dict_find_laws.proofs.Probing.{Compares, Graph}
use Rattle.dict_find_laws.proofs.Shaped.{shaped}

map_twice : {A : Type 0} (f : A → ℤ) (h : ℤ → ℕ) (xs : List A) → map h (map f xs) ≡ map (λ x. h (f x)) xs
map_twice f h [] = refl
map_twice f h (x ∷ xs) = ap (λ l. h (f x) ∷ l) (map_twice f h xs)

pub pairs_long : (pairs : List (Meant × Meant)) → length (keys_of pairs) ≡ length pairs
pairs_long pairs = length-map pairs (λ (q : Meant × Meant). q.0)

module _ (layout : Layout) (known : Known) (p : LlProgram) (args : List (List ℕ)) (f : ℕ) (m : Mapping) (core : Core) (g : Ghost) (heap : Heap) (i : ℕ) (head : Value) (v : Meant) (structs : HasDict p m) (d : DictAt layout known g heap core.blocks core.statics m i head) where
  abbrev pub Has : Type 0
  Has = Arrays layout known g core.blocks core.statics m i d.pairs d.places d.one d.two

  abbrev pub has : ℕ → Bool
  has = has_key is_equal (keys_of d.pairs) v

  -- no place, no entry
  pub no_entries : d.places ≡ 0 → d.pairs ≡ []
  no_entries none = by d.arrays
    where
      empty : (pairs : List (Meant × Meant)) → length pairs ≡ 0 → pairs ≡ []
      empty [] e = refl
      empty (q ∷ pairs) e = absurd (omega (arith, e))

      by : Lacks layout known g core.blocks core.statics m i d.pairs d.places d.one d.two ⊎ Has → d.pairs ≡ []
      by (inl l) = l.empty
      by (inr a) = empty d.pairs (let e : length a.keys ≡ length (keys_of d.pairs) = each_long a.each_key in let q = pairs_long d.pairs in let k = a.key_places in omega (arith, e, q, k, none))

  module _ (a : Has) where
    pub entries_few : length d.pairs ≤ d.places
    entries_few = (let e : length a.keys ≡ length (keys_of d.pairs) = each_long a.each_key in let q = pairs_long d.pairs in let k = a.key_places in omega (arith, e, q, k))

    abbrev pub stored_keys : List Value
    stored_keys = map (as_item m.key (stored_key m)) a.keys ++ a.spare_keys

    abbrev pub stored_values : List Value
    stored_values = map (as_item m.value (stored_value m)) a.values ++ a.spare_values

    pub keys_long : length stored_keys ≡ d.places
    keys_long = (let q = length-append (map (as_item m.key (stored_key m)) a.keys) a.spare_keys in let r = length-map a.keys (as_item m.key (stored_key m)) in let k = a.key_places in omega (arith, q, r, k))

    pub values_long : length stored_values ≡ d.places
    values_long = (let q = length-append (map (as_item m.value (stored_value m)) a.values) a.spare_values in let r = length-map a.values (as_item m.value (stored_value m)) in let k = a.value_places in omega (arith, q, r, k))

    pub second_long : length (in_second m stored_keys stored_values) ≡ d.places
    second_long = by (keys_last m)
      where
        by : (b : Bool) → length (if b then stored_keys else stored_values) ≡ d.places
        by true = keys_long
        by false = values_long

  module _ (b c : Bool) (t : LlType) (hashes : ℕ) (test : ℕ → ℕ → LlOp) (x v4 : Value)
      (graph : Graph p args f hashes (shaped m b c t) (types p args f hashes (shaped m b c t) (test 14 17) core head x v4 d.one d.two (length d.pairs) d.places) (test 14 17) core head x v4 d.two 0 0)
      (x_set : is_unset x ≡ false) (indexed : is_indexed m ≡ true) where
    pub none : d.places ≡ 0 → (waits : List Frame) → Comes p args (Calling f (head ∷ x ∷ []) waits core) [] (place_word (position_from is_equal 0 (keys_of d.pairs) v)) waits core
    none nothing waits = subst (λ pairs. Comes p args (Calling f (head ∷ x ∷ []) waits core) [] (place_word (position_from is_equal 0 (keys_of pairs) v)) waits core) (sym (no_entries nothing))
        (none_found p args f hashes (shaped m b c t) (test 14 17) core head x v4 d.one d.two (length d.pairs) d.places graph x_set structs.head d.head_is nothing waits)

    module _ (a : Has) (some : 0 < d.places) (v4_set : is_unset v4 ≡ false) (reads_first : ReadsFirst p args f hashes (shaped m b c t) (test 14 17) core head x v4 d.one d.two (length d.pairs) d.places)
        (hashed : (function block at : ℕ) (vars : List Value) (waits : List Frame) → Comes p args (Calling hashes (x ∷ []) waits (record core { function = function; block = block; at = at; vars = vars })) [] (Word (hash layout m.key v)) waits (record core { function = function; block = block; at = at; vars = vars }))
        (compares : (bits : ℕ) → bits < 63 → length a.index ≡ 2 ^ bits → Compares p args f hashes (shaped m b c t) (types p args f hashes (shaped m b c t) (test 14 17) core head x v4 d.one d.two (length d.pairs) d.places) (test 14 17) core head x v4 d.two (2 ^ bits) (2 ^ bits - 1) has (length d.pairs)) where
      is_index : IsIndex (map (hash layout m.key) (keys_of d.pairs)) d.places a.index
      is_index = subst (λ t. IsIndexIf t (map (hash layout m.key) (keys_of d.pairs)) d.places a.index) indexed a.indexed

      abbrev bits : ℕ
      bits = is_index.long.bits

      abbrev start : Meant → ℕ
      start w = place_of bits (hash layout m.key w)

      right : IsRight a.index (map start (keys_of d.pairs))
      right = subst (IsRight a.index) (map_twice (hash layout m.key) (place_of bits) (keys_of d.pairs)) is_index.right

      starts_long : length (map start (keys_of d.pairs)) ≡ length d.pairs
      starts_long = length-map (keys_of d.pairs) start ∙ pairs_long d.pairs

      size_is : length a.index ≡ 2 ^ bits
      size_is = is_index.long.is

      pub by_index : (waits : List Frame) → Comes p args (Calling f (head ∷ x ∷ []) waits core) [] (place_word (position_from is_equal 0 (keys_of d.pairs) v)) waits core
      by_index waits =
          let lead = (masks_lead bits is_index.long.few).0 (hash layout m.key v) in
          let few = entries_few a in
          let longer = is_index.long.longer in
          let end = looking_ends a.index (map start (keys_of d.pairs)) has (start v) right (omega (arith, starts_long, few, longer)) (omega (arith, lead.1, size_is)) in
          let same = finds_places Meant is_equal start a.index (keys_of d.pairs) v (same_start start) same_both right d.apart end.0 end.1 in
          subst (λ o. Comes p args (Calling f (head ∷ x ∷ []) waits core) [] (place_word o) waits core) same
          (key_found p args f hashes (shaped m b c t) (test 14 17) core head x v4 d.one d.two (length d.pairs) d.places graph x_set structs.head d.head_is some v4_set (found_set core.blocks core.statics d.two _ a.second_is) reads_first bits (2 ^ bits) is_index.long.few refl a.index size_is
          (in_second m (stored_keys a) (stored_values a)) (second_long a) d.few structs.second a.second_is (hash layout m.key v) hashed has
          (λ at entry h. (let k = right.known at entry h in omega (arith, k, starts_long))) (compares bits is_index.long.few size_is) end.0 end.1 waits)
