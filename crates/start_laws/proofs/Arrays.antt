-- The arrays of a dict that is a constant, as they stand in memory.
use Rattle.std.proofs.Common.{◌≡◌, ℕ, suc, Bool, true, false, List, ◌∷◌, ◌++◌, length, map, slice_get, Option, Some, None, pos, refl, sym, ap, ◌∙◌, subst, arith, []}
use Rattle.std.specs.Prelude.{if◌then◌else◌}
use Rattle.std.proofs.lemmas.List.{append-nil, map-append}
use Rattle.csub_tree.specs.State.{Value, Word, Static}
use Rattle.csub_tree.specs.Layout.{constant, shape_at, shape_over, static_block}
use Rattle.csub_tree.specs.declared.tree.CConst.{CConst}
use Rattle.csub_tree.specs.declared.tree.CConst.TheVariants as low
use Rattle.ll_code.specs.Machine.{shapes_of}
use Rattle.ll_code.specs.declared.program.LlType.{LlType}
use Rattle.ll_code.specs.declared.program.LlProgram.{LlProgram}
use Rattle.rpy_tree.specs.Value.{Value as Meant}
use Rattle.rpy_tree.specs.declared.program.Const.{Const}
use Rattle.rpy_tree.specs.declared.program.Site.{Site}
use Rattle.rpy_meaning.specs.Operations.{constant as meant_of, object_of}
use Rattle.ann_element.specs.declared.element.Element.{Element}
use Rattle.rtyper_layout.specs.declared.dicts.Mapping.{Mapping}
use Rattle.rtyper_layout.specs.declared.layout.Layout.{Layout}
use Rattle.rtyper_layout.specs.Dicts.{first, second, keys_last, is_indexed, stored_key, stored_value}
use Rattle.rtyper_data.specs.Finding.{same_type}
use Rattle.rtyper_data.specs.Seen.{Around}
use Rattle.rtyper_op.specs.Mapped.{as_word}
use Rattle.layout_laws.specs.Statics.{statics_of}
use Rattle.object_laws.specs.Dicts.{Arrays, IsIndexIf, as_item, hash, in_first, in_second, index_values, items_block, keys_of, values_of}
use Rattle.object_laws.specs.Dicts as dicts
use Rattle.object_laws.specs.Done.{HasDict, HasLayout}
use Rattle.object_laws.specs.Ghost.{Ghost, Use}
use Rattle.object_laws.specs.Known.{Known}
use Rattle.object_laws.specs.Values.{EachHolds, Empty, More}
use Rattle.start_laws.proofs.Building.{ArraysBuilt, count, firsts, get_map, kept_as, keys_meant, numbers, seconds, values_meant}
use Rattle.start_laws.proofs.Serving.{array_in, array_static, map_long}

word_as : (c : CConst) → constant (as_word c) ≡ dicts.as_word (constant c)
word_as (low.Word z) = refl
word_as (low.Char b) = refl
word_as (low.Bool b) = refl
word_as low.Null = refl
word_as (low.Static n s) = refl
word_as (low.Fun f) = refl

pub kept_is : (kind item : LlType) (c : CConst) → constant (kept_as kind item c) ≡ as_item kind item (constant c)
kept_is kind item c = by (same_type item kind)
  where
    by : (b : Bool) → constant (if b then c else as_word c) ≡ (if b then constant c else dicts.as_word (constant c))
    by true = refl
    by false = word_as c

all_kept : (kind item : LlType) (cs : List CConst) → map constant (map (kept_as kind item) cs) ≡ map (as_item kind item) (map constant cs)
all_kept kind item [] = refl
all_kept kind item (c ∷ cs) = ap (λ x. x ∷ map constant (map (kept_as kind item) cs)) (kept_is kind item c) ∙ ap (λ xs. as_item kind item (constant c) ∷ xs) (all_kept kind item cs)

index_is : (words : List ℕ) → map constant (numbers words) ≡ index_values words
index_is [] = refl
index_is (n ∷ words) = ap (λ xs. Word (pos n) ∷ xs) (index_is words)

-- what stands in the arrays
abbrev pub keys_in : Mapping → List CConst → List Value
keys_in m keys = map (as_item m.key (stored_key m)) (map constant keys) ++ []

abbrev pub values_in : Mapping → List CConst → List Value
values_in m values = map (as_item m.value (stored_value m)) (map constant values) ++ []

key_side : (m : Mapping) (keys : List CConst) → map constant (map (kept_as m.key (stored_key m)) keys) ≡ keys_in m keys
key_side m keys = all_kept m.key (stored_key m) keys ∙ sym (append-nil (map (as_item m.key (stored_key m)) (map constant keys)))

value_side : (m : Mapping) (values : List CConst) → map constant (map (kept_as m.value (stored_value m)) values) ≡ values_in m values
value_side m values = all_kept m.value (stored_value m) values ∙ sym (append-nil (map (as_item m.value (stored_value m)) (map constant values)))

firsts_are : (m : Mapping) (keys values : List CConst) → map constant (firsts m keys values) ≡ in_first m (keys_in m keys) (values_in m values)
firsts_are m keys values = by (keys_last m)
  where
    by : (b : Bool) → map constant (if b then map (kept_as m.value (stored_value m)) values else map (kept_as m.key (stored_key m)) keys) ≡ (if b then values_in m values else keys_in m keys)
    by true = value_side m values
    by false = key_side m keys

seconds_are : (m : Mapping) (keys values : List CConst) → map constant (seconds m keys values) ≡ in_second m (keys_in m keys) (values_in m values)
seconds_are m keys values = by (keys_last m)
  where
    by : (b : Bool) → map constant (if b then map (kept_as m.key (stored_key m)) keys else map (kept_as m.value (stored_value m)) values) ≡ (if b then keys_in m keys else values_in m values)
    by true = key_side m keys
    by false = value_side m values

each_many : {layout : Layout} {known : Known} {g : Ghost} {seen : Option Element} {xs : List Value} {vs : List Meant} → EachHolds layout known g seen xs vs → length xs ≡ length vs
each_many Empty = refl
each_many (More h each) = ap suc (each_many each)

-- an array in memory
array_block : (p : LlProgram) (s n : ℕ) (cs : List CConst) (xs : List Value) → shape_at (shapes_of p.structs) n ≡ shape_over n 1 None → slice_get p.statics s ≡ Some (array_static n (count (length cs)) cs) → map constant cs ≡ xs → slice_get (statics_of p) s ≡ Some (items_block n xs)
array_block p s n cs xs shape there is =
    get_map (static_block (shapes_of p.structs)) p.statics s (array_static n (count (length cs)) cs) there ∙ ap Some (array_in (shapes_of p.structs) n (count (length cs)) cs shape)
    ∙ ap (λ k. Some (record { kind = n; fields = Word (pos k) ∷ []; items = map constant cs })) (sym (map_long constant cs)) ∙ ap (λ ys. Some (items_block n ys)) is

module _ (p : LlProgram) (around : Around) (known : Known) (sites : List Site) (same : List ℕ) (has : HasLayout p around.layout) where
  abbrev pub entries : List (Const × Const) → List (Meant × Meant)
  entries pairs = map (λ (q : Const × Const). (meant_of known.program.sites q.0, meant_of known.program.sites q.1)) pairs

  pub keys_same : (pairs : List (Const × Const)) → keys_of (entries pairs) ≡ keys_meant p around known sites same has pairs
  keys_same [] = refl
  keys_same (q ∷ pairs) = ap (λ vs. meant_of known.program.sites q.0 ∷ vs) (keys_same pairs)

  pub values_same : (pairs : List (Const × Const)) → values_of (entries pairs) ≡ values_meant p around known sites same has pairs
  values_same [] = refl
  values_same (q ∷ pairs) = ap (λ vs. meant_of known.program.sites q.1 ∷ vs) (values_same pairs)

  pub arrays_stand : (g : Ghost) (uses : List Use) (site number : ℕ) (m : Mapping) (pairs : List (Const × Const)) (keys values : List CConst) → g.statics ≡ uses → HasDict p m
      → (b : ArraysBuilt p around known sites same has p.statics uses site number m pairs keys values)
      → EachHolds around.layout known g (known.keys m.dict) (map constant keys) (keys_meant p around known sites same has pairs)
      → EachHolds around.layout known g (known.items m.dict) (map constant values) (values_meant p around known sites same has pairs)
      → Arrays around.layout known g [] (statics_of p) m (object_of known.program.sites site) (entries pairs) (length pairs) (Static b.one) (Static b.two)
  arrays_stand g uses site number m pairs keys values uses_are laid b each_key each_value =
      let key_many = each_many each_key in
      let value_many = each_many each_value in
      let keys_long = map_long (λ (q : Const × Const). meant_of known.program.sites q.0) pairs in
      let values_long = map_long (λ (q : Const × Const). meant_of known.program.sites q.1) pairs in
      record {
        keys = map constant keys;
        values = map constant values;
        spare_keys = [];
        spare_values = [];
        index = b.index;
        first_use = ap (λ us. slice_get us b.one) uses_are ∙ b.first_use;
        second_use = ap (λ us. slice_get us b.two) uses_are ∙ b.second_use;
        first_is = array_block p b.one (first m) (firsts m keys values) _ laid.first b.first_is (firsts_are m keys values);
        second_is = array_block p b.two (second m) (numbers b.index ++ seconds m keys values) _ laid.second b.second_is
            (map-append constant (numbers b.index) (seconds m keys values) ∙ ap (λ xs. xs ++ map constant (seconds m keys values)) (index_is b.index) ∙ ap (λ xs. index_values b.index ++ xs) (seconds_are m keys values));
        each_key = subst (λ vs. EachHolds around.layout known g (known.keys m.dict) (map constant keys) vs) (sym (keys_same pairs)) each_key;
        each_value = subst (λ vs. EachHolds around.layout known g (known.items m.dict) (map constant values) vs) (sym (values_same pairs)) each_value;
        no_keys = tt;
        no_values = tt;
        key_places = omega (arith, key_many, keys_long);
        value_places = omega (arith, value_many, values_long);
        indexed = subst (λ vs. IsIndexIf (is_indexed m) (map (hash around.layout m.key) vs) (length pairs) b.index) (sym (keys_same pairs)) b.indexed;
      }
