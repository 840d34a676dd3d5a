-- What is known of the arrays of a dict, and whether two keys are equal.
use Rattle.std.proofs.Common.{◌≡◌, ◌<◌, ◌≤◌, ℕ, zero, ◌+◌, ◌^◌, Bool, true, false, List, [], ◌++◌, length, map, Option, Some, ℤ, refl, ap, ◌∙◌, subst, arith, length-append}
use Rattle.std.specs.Prelude.{if◌then◌else◌}
use Rattle.std.proofs.lemmas.Cmp.{int_eq_equiv, nat_list_eq_equiv}
use Rattle.std.proofs.lemmas.List.{length-map}
use Rattle.std.proofs.Math.Nat.{pow-le-pow_right}
use Rattle.csub_tree.specs.State.{Value, Block}
use Rattle.rpy_tree.specs.Value.{Value as Meant, Word as MeantWord, Flag, Text, Nothing, Tuple, Fun, Ref, Values, none, more}
use Rattle.rpy_meaning.specs.Compare.{equal, all_equal, both, is_equal, holds}
use Rattle.rtyper_layout.specs.declared.dicts.Mapping.{Mapping}
use Rattle.rtyper_layout.specs.declared.layout.Layout.{Layout}
use Rattle.rtyper_layout.specs.Dicts.{first, second, keys_last, is_indexed, stored_key, stored_value}
use Rattle.rtyper_dict.specs.declared.parts.DictShape.{DictShape}
use Rattle.object_laws.specs.Dicts.{Arrays, IsIndex, IsIndexIf, as_item, hash, index_values, keys_of, in_first, in_second}
use Rattle.object_laws.specs.Ghost.{Ghost}
use Rattle.object_laws.specs.Known.{Known}
use Rattle.object_laws.proofs.Valued.{each_long}
use Rattle.dict_change_laws.proofs.Entering.{words_long}
use Rattle.dict_change_laws.proofs.Keyed.{map_long}

-- the structs of a mapping
abbrev pub the_shape : Mapping → DictShape
the_shape m = record { dict = m.dict; first = first m; second = second m; key = m.key; value = m.value; stored_key = stored_key m; stored_value = stored_value m; keys_last = keys_last m; is_indexed = is_indexed m }

-- ---- lengths

-- the lengths of indices
pub greatest : (bits : ℕ) → bits < 63 → 2 ^ bits ≤ 2 ^ 62
greatest bits few = (let b : bits ≤ 62 = omega (arith, few) in let two : zero < 2 = omega arith in pow-le-pow_right two b)

pub index_of : {hashes : List ℤ} {places : ℕ} {words : List ℕ} {c : Bool} → c ≡ true → IsIndexIf c hashes places words → IsIndex hashes places words
index_of {hashes = hashes} {places = places} {words = words} e h = subst (λ c. IsIndexIf c hashes places words) e h

pub no_index : (hashes : List ℤ) (places : ℕ) (words : List ℕ) (c : Bool) → c ≡ false → IsIndexIf c hashes places words → words ≡ []
no_index hashes places words c e h = subst (λ c. IsIndexIf c hashes places words) e h

pub index_short : (c : Bool) (hashes : List ℤ) (places : ℕ) (words : List ℕ) → IsIndexIf c hashes places words → length words ≤ 2 ^ 62
index_short true hashes places words h = (let g = greatest h.long.bits h.long.few in let e = h.long.is in omega (arith, g, e))
index_short false hashes places words h = (let e : length words ≡ 0 = ap length h in omega (arith, e))

pub both_long : (c : Bool) (xs ys : List Value) (n : ℕ) → length xs ≡ n → length ys ≡ n → length (if c then xs else ys) ≡ n
both_long true xs ys n h k = h
both_long false xs ys n h k = k

module _ {layout : Layout} {known : Known} {g : Ghost} {blocks : List (Option Block)} {statics : List Block} {m : Mapping} {i : ℕ} {pairs : List (Meant × Meant)} {places : ℕ} {one two : Value} (a : Arrays layout known g blocks statics m i pairs places one two) where
  abbrev pub all_keys : List Value
  all_keys = map (as_item m.key (stored_key m)) a.keys ++ a.spare_keys

  abbrev pub all_values : List Value
  all_values = map (as_item m.value (stored_value m)) a.values ++ a.spare_values

  pub keys_count : length a.keys ≡ length pairs
  keys_count = each_long a.each_key ∙ length-map pairs (λ (q : Meant × Meant). q.0)

  pub values_count : length a.values ≡ length pairs
  values_count = each_long a.each_value ∙ length-map pairs (λ (q : Meant × Meant). q.1)

  pub keys_long : length all_keys ≡ places
  keys_long = length-append (map (as_item m.key (stored_key m)) a.keys) a.spare_keys ∙ ap (λ n. n + length a.spare_keys) (map_long (as_item m.key (stored_key m)) a.keys) ∙ a.key_places

  pub values_long : length all_values ≡ places
  values_long = length-append (map (as_item m.value (stored_value m)) a.values) a.spare_values ∙ ap (λ n. n + length a.spare_values) (map_long (as_item m.value (stored_value m)) a.values) ∙ a.value_places

  pub firsts_long : length (in_first m all_keys all_values) ≡ places
  firsts_long = both_long _ all_values all_keys places values_long keys_long

  pub seconds_long : length (in_second m all_keys all_values) ≡ places
  seconds_long = both_long _ all_keys all_values places keys_long values_long

  pub total_long : length (index_values a.index ++ in_second m all_keys all_values) ≡ length a.index + places
  total_long = words_long a.index (in_second m all_keys all_values) ∙ ap (λ n. length a.index + n) seconds_long

  pub total_small : places < 2 ^ 62 → length a.index + places < 2 ^ 63
  total_small few = (let s = index_short (is_indexed m) (map (hash layout m.key) (keys_of pairs)) places a.index a.indexed in omega (arith, s, few))

  pub no_more : length pairs ≤ places
  no_more = (let k = keys_count in let h = a.key_places in omega (arith, k, h))

-- ---- equality

flags_symmetric : (a b : Bool) → equal (Flag a) (Flag b) ≡ equal (Flag b) (Flag a)
flags_symmetric true true = refl
flags_symmetric true false = refl
flags_symmetric false true = refl
flags_symmetric false false = refl

mutual
  pub equal_symmetric : (x y : Meant) → equal x y ≡ equal y x
  equal_symmetric (MeantWord a) (MeantWord b) = ap Some (int_eq_equiv.symm a b)
  equal_symmetric (Flag a) (Flag b) = flags_symmetric a b
  equal_symmetric (Text a) (Text b) = ap Some (nat_list_eq_equiv.symm a b)
  equal_symmetric (Tuple xs) (Tuple ys) = all_symmetric xs ys
  equal_symmetric (MeantWord a) _ = refl
  equal_symmetric (Flag a) _ = refl
  equal_symmetric (Text a) _ = refl
  equal_symmetric (Tuple xs) _ = refl
  equal_symmetric (Fun f) (Fun h) = refl
  equal_symmetric (Fun f) _ = refl
  equal_symmetric (Ref r) (Ref s) = refl
  equal_symmetric (Ref r) _ = refl
  equal_symmetric Nothing (Text b) = refl
  equal_symmetric Nothing Nothing = refl
  equal_symmetric Nothing _ = refl

  all_symmetric : (xs ys : Values) → all_equal xs ys ≡ all_equal ys xs
  all_symmetric none none = refl
  all_symmetric (more x xs) (more y ys) = ap (λ a. both a (all_equal xs ys)) (equal_symmetric x y) ∙ ap (λ b. both (equal y x) b) (all_symmetric xs ys)
  all_symmetric none (more y ys) = refl
  all_symmetric (more x xs) none = refl

pub is_equal_symmetric : (x y : Meant) → is_equal x y ≡ is_equal y x
is_equal_symmetric x y = ap holds (equal_symmetric x y)
