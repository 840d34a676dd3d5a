-- The graph that gives the value of an entry.
use Rattle.std.proofs.Common.{◌≡◌, ◌<◌, ◌≤◌, ℕ, ◌+◌, ◌^◌, ◌||◌, Bool, true, false, List, [], ◌∷◌, ◌++◌, length, map, Some, pos, refl, ap, ◌∙◌, subst, arith, length-append}
use Rattle.std.specs.Prelude.{slice_get, if◌then◌else◌}
use Rattle.std.proofs.lemmas.List.{length-map}
use Rattle.csub_tree.specs.State.{Value, Unset, Word, Byte, Flag, Fun, Null, Ptr, Static, Core}
use Rattle.csub_tree.specs.Operation.{is_unset}
use Rattle.ll_code.specs.State.{Frame, Calling}
use Rattle.ll_code.specs.declared.program.LlType.{LlType}
use Rattle.ll_code.specs.declared.program.LlProgram.{LlProgram}
use Rattle.ll_leads.proofs.Ways.{Comes, on, many, enter, gives}
use Rattle.ll_texts.specs.Texts.{found}
use Rattle.ll_texts.proofs.Numbers.{adds, subs}
use Rattle.rpy_tree.specs.Value.{Value as Meant, Heap}
use Rattle.rtyper_layout.specs.declared.dicts.Mapping.{Mapping}
use Rattle.rtyper_layout.specs.declared.layout.Layout.{Layout}
use Rattle.rtyper_layout.specs.Dicts.{first, second, is_indexed, is_plain, stored_key, stored_value}
use Rattle.rtyper_layout.specs.Layout.{mapping_at}
use Rattle.rtyper_data.specs.Finding.{same_type}
use Rattle.rtyper_data.specs.declared.small.Keyed.TheVariants as keyed
use Rattle.rtyper_dict.specs.declared.parts.DictShape.{DictShape}
use Rattle.rtyper_dict.specs.Graphs.{dict_graph}
use Rattle.rtyper_dict.specs.Listing.{value, value_ops, value_read, value_types}
use Rattle.rtyper_dict.specs.Parts.{dict_at}
use Rattle.dict_op_laws.specs.Asked.{HasKeyed}
use Rattle.object_laws.specs.Dicts.{Arrays, DictAt, IsIndexIf, as_item, as_word, dict_block, hash, index_values, items_block, keys_of, values_of}
use Rattle.object_laws.specs.Done.{HasDict}
use Rattle.object_laws.specs.Ghost.{Ghost}
use Rattle.object_laws.specs.Known.{Known}
use Rattle.object_laws.specs.Represents.{Represents}
use Rattle.object_laws.proofs.Blocks.{found_set, reads_field, reads_item}
use Rattle.object_laws.proofs.Valued.{held_set}
use Rattle.dict_find_laws.proofs.Keyed.{KeyAt, key_at}
use Rattle.dict_laws.proofs.Masked.{two_more}
use Rattle.dict_find_laws.proofs.Probing.{read_behind}
use Rattle.dict_find_laws.proofs.Shaped.{shape_is, shaped}

as_word_set : (x : Value) → is_unset x ≡ false → is_unset (as_word x) ≡ false
as_word_set (Flag b) h = refl
as_word_set (Byte b) h = refl
as_word_set (Word z) h = refl
as_word_set (Fun f) h = refl
as_word_set Null h = refl
as_word_set (Ptr n) h = refl
as_word_set (Static n) h = refl
as_word_set Unset h = h

pub as_item_set : (kind item : LlType) (x : Value) → is_unset x ≡ false → is_unset (as_item kind item x) ≡ false
as_item_set kind item x h = by (same_type item kind)
  where
    by : (b : Bool) → is_unset (if b then x else as_word x) ≡ false
    by true = h
    by false = as_word_set x h

module _ (layout : Layout) (known : Known) (m : Mapping) (core : Core) (g : Ghost) (heap : Heap) (i : ℕ) (head : Value) (d : DictAt layout known g heap core.blocks core.statics m i head) (a : Arrays layout known g core.blocks core.statics m i d.pairs d.places d.one d.two) where
  -- the value at a place, as it stands
  abbrev pub Worth : ℕ → Type 0
  Worth entry = KeyAt layout known g (known.items m.dict) (as_item m.value (stored_value m)) (map (as_item m.value (stored_value m)) a.values ++ a.spare_values) (values_of d.pairs) entry

  pub value_stands : (entry : ℕ) → entry < length d.pairs → Worth entry
  value_stands entry lt = key_at (as_item m.value (stored_value m)) a.spare_values entry a.each_value (let q = length-map d.pairs (λ (q : Meant × Meant). q.1) in omega (arith, lt, q))

module _ (layout : Layout) (known : Known) (p : LlProgram) (args : List (List ℕ)) (n f : ℕ) (m : Mapping) (core : Core) (g : Ghost) (heap : Heap) (left i : ℕ) (head : Value) (mapping : mapping_at layout.mappings n ≡ Some m) (structs : HasDict p m)
    (asked : HasKeyed p layout (keyed.Value n) f) (stands : Represents layout known g heap left core.blocks core.statics) (d : DictAt layout known g heap core.blocks core.statics m i head) (a : Arrays layout known g core.blocks core.statics m i d.pairs d.places d.one d.two) where
  abbrev values : List Value
  values = map (as_item m.value (stored_value m)) a.values ++ a.spare_values

  index_few : length a.index ≤ 2 ^ 62
  index_few = by (is_indexed m) a.indexed
    where
      by : (b : Bool) → IsIndexIf b (map (hash layout m.key) (keys_of d.pairs)) d.places a.index → length a.index ≤ 2 ^ 62
      by true it = (let q = two_more it.long.bits 62 (let k = it.long.few in omega (arith, k)) in let k = it.long.is in omega (arith, q, k))
      by false it = (let q = ap length it in omega (arith, q))

  module _ (entry : ℕ) (lt : entry < length d.pairs) (few : length d.pairs ≤ d.places) (long : length values ≡ d.places) (it : Worth layout known m core g heap i head d a entry) where
    abbrev kept : Value
    kept = as_item m.value (stored_value m) it.value

    kept_set : is_unset kept ≡ false
    kept_set = as_item_set m.value (stored_value m) it.value (held_set stands it.held)

    graph_of : (s : DictShape) → dict_at layout n ≡ s → slice_get p.graphs f ≡ Some (value s)
    unfolding dict_graph
    graph_of s h = asked.graph ∙ ap (λ s. Some (value s)) h

    abbrev Gives : Type 0
    Gives = (waits : List Frame) → Comes p args (Calling f (head ∷ Word (pos entry) ∷ []) waits core) [] kept waits core

    -- where it stands in the first array
    from_first : is_plain m.key ≡ true → Gives
    unfolding value value_ops value_read value_types
    from_first plain waits =
        let graph = graph_of (shaped m true (is_plain m.value) m.key) (shape_is layout n m mapping ∙ ap (λ b. shaped m b (is_plain m.value) m.key) plain) in
        let first_is : found core.blocks core.statics d.one ≡ Some (items_block (first m) values) = subst (λ b. found core.blocks core.statics d.one ≡ Some (items_block (first m) (if b then values else (map (as_item m.key (stored_key m)) a.keys ++ a.spare_keys)))) plain a.first_is in
        record {
          end = _;
          same = refl;
          leads =
              on (enter graph refl) (on (reads_field 4 (dict_block m.dict (length d.pairs) d.places d.one d.two) d.one structs.head d.head_is refl (found_set core.blocks core.statics d.one _ first_is) 2 refl)
              (on (reads_item 1 (items_block (first m) values) kept structs.first first_is refl kept_set entry refl (omega (arith, lt, few, long)) it.low) (many 1 graph refl (ap (λ b. b || false) kept_set))));
        }

    -- and where it stands behind the index
    from_second : is_plain m.key ≡ false → Gives
    unfolding value value_ops value_read value_types
    from_second other waits =
        let graph = graph_of (shaped m false (is_plain m.value) m.key) (shape_is layout n m mapping ∙ ap (λ b. shaped m b (is_plain m.value) m.key) other) in
        let size : ℕ = length a.index in
        let second_is : found core.blocks core.statics d.two ≡ Some (items_block (second m) (index_values a.index ++ values)) = subst (λ b. found core.blocks core.statics d.two ≡ Some (items_block (second m) (index_values a.index ++ (if b then (map (as_item m.key (stored_key m)) a.keys ++ a.spare_keys) else values)))) other a.second_is in
        let whole_long : length (index_values a.index ++ values) ≡ size + d.places = (let x = length-append (index_values a.index) values in let y = length-map a.index (λ (n : ℕ). Word (pos n)) in omega (arith, x, y, long)) in
        let small = d.few in
        record {
          end = _;
          same = refl;
          leads =
              on (enter graph refl) (on (reads_field 4 (dict_block m.dict (length d.pairs) d.places d.one d.two) d.two structs.head d.head_is refl (found_set core.blocks core.statics d.two _ second_is) 3 refl)
              (on (reads_field 1 (items_block (second m) (index_values a.index ++ values)) (Word (pos (size + d.places))) structs.second second_is refl refl 0 (ap (λ n. Word (pos n)) whole_long))
              (on (reads_field 4 (dict_block m.dict (length d.pairs) d.places d.one d.two) (Word (pos d.places)) structs.head d.head_is refl refl 1 refl)
              (on (gives (Word (pos size)) (subs (size + d.places) d.places size (omega arith) (omega (arith, index_few, small))))
              (on (gives (Word (pos (size + entry))) (adds size entry (omega (arith, index_few, small, lt, few))))
              (on (reads_item 1 (items_block (second m) (index_values a.index ++ values)) kept structs.second second_is refl kept_set (size + entry) refl (omega (arith, lt, few, whole_long)) (read_behind a.index values entry ∙ it.low))
              (many 1 graph refl (ap (λ b. b || false) kept_set))))))));
        }

    pub gives_worth : Gives
    gives_worth = by (is_plain m.key) refl
      where
        by : (b : Bool) → is_plain m.key ≡ b → Gives
        by true h = from_first h
        by false h = from_second h
