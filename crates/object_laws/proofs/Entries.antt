-- A dict of one entry stands in three blocks.
use Rattle.std.proofs.Common.{◌≡◌, ℕ, zero, suc, true, false, List, [], ◌∷◌, Some, pos, ℤ, refl, sym, ap, ◌∙◌, subst, arith, inr}
use Rattle.std.specs.Prelude.{slice_get}
use Rattle.std.specs.Int.{int_wrap}
use Rattle.std.proofs.lemmas.Int.{ints}
use Rattle.rpy_base.specs.Word.{Fits}
use Rattle.ann_element.specs.declared.element.Element.TheVariants as element
use Rattle.csub_tree.specs.State.{Value, Word, Ptr, Static, Block}
use Rattle.ll_texts.specs.Texts.{found}
use Rattle.rpy_tree.specs.Value.{Value as Meant, Word as MeantWord}
use Rattle.rpy_meaning.specs.Compare.{is_equal}
use Rattle.rtyper_layout.specs.declared.dicts.Mapping.{Mapping}
use Rattle.rtyper_layout.specs.Layout.{mapping_at}
use Rattle.rtyper_op.specs.Mapped.{mixed}
use Rattle.dict_laws.specs.Index.{StandsFrom, here}
use Rattle.dict_laws.specs.Masks.{place_of}
use Rattle.lower_laws.proofs.Typing.{place_of_words}
use Rattle.object_laws.specs.Dicts.{DictAt, IsIndex}
use Rattle.object_laws.specs.Ghost.{Home, Sort, ListOf, InstanceOf, DictOf, Stays, use_of}
use Rattle.object_laws.specs.Represents.{is_settled}
use Rattle.object_laws.specs.Rows.{known, words, dict_layout, dict_heap, dict_blocks, dict_ghost, OneEntry}
use Rattle.object_laws.specs.Values.{Holds, Plain, Stands, word, Empty, More}

a_word : (z : ℤ) → Fits z → Holds dict_layout known dict_ghost (Some element.Int) (Word z) (MeantWord z)
a_word z f = Plain refl (subst (λ t. Stands dict_ghost t (Word z) (MeantWord z)) (sym (place_of_words dict_layout (Some element.Int) refl)) (word z f))

-- ---- the index

abbrev index : List ℕ
index = 0 ∷ 1 ∷ 0 ∷ 0 ∷ []

leads : place_of 2 (mixed (pos 7)) ≡ 1
unfolding mixed int_wrap
leads = refl

abbrev starts : List ℕ
starts = place_of 2 (mixed (pos 7)) ∷ []

same_number : {a b : ℕ} → Some a ≡ Some b → a ≡ b
same_number h = cc

starts_at : (entry start : ℕ) → slice_get starts entry ≡ Some start → (entry ≡ 0) × (start ≡ 1)
starts_at zero start is = (refl, sym (same_number is) ∙ leads)
starts_at (suc entry) start is = absurd (cc)

stands_at : (entry start : ℕ) → (entry ≡ 0) × (start ≡ 1) → StandsFrom index entry start
stands_at entry start at = subst (λ e. StandsFrom index e start) (sym at.0) (subst (StandsFrom index 0) (sym at.1) (here 1 refl))

holds_first : (at entry : ℕ) → slice_get index at ≡ Some (suc entry) → (at ≡ 1) × (entry ≡ 0)
holds_first zero entry is = absurd (let q : 0 ≡ suc entry = same_number is in omega (arith, q))
holds_first (suc zero) entry is = (refl, (let q : 1 ≡ suc entry = same_number is in omega (arith, q)))
holds_first (suc (suc zero)) entry is = absurd (let q : 0 ≡ suc entry = same_number is in omega (arith, q))
holds_first (suc (suc (suc zero))) entry is = absurd (let q : 0 ≡ suc entry = same_number is in omega (arith, q))
holds_first (suc (suc (suc (suc n)))) entry is = absurd (cc)

is_index : IsIndex (mixed (pos 7) ∷ []) 2 index
is_index = record {
  long = record { bits = 2; few = omega arith; is = refl; longer = omega arith };
  right = record {
    within = λ entry start is. (let at = (starts_at entry start is).1 in omega (arith, at));
    stands = λ entry start is. stands_at entry start (starts_at entry start is);
    known = λ at entry is. (let e = (holds_first at entry is).1 in omega (arith, e));
    once = λ at other entry here there. (holds_first at entry here).0 ∙ sym (holds_first other entry there).0;
    free = refl;
  };
}

-- ---- the dict

one_key : (i j : ℕ) (v w : Meant) → slice_get (MeantWord (pos 7) ∷ []) i ≡ Some v → slice_get (MeantWord (pos 7) ∷ []) j ≡ Some w → is_equal v w ≡ true → i ≡ j
one_key zero zero v w h k e = refl
one_key zero (suc j) v w h k e = absurd (cc)
one_key (suc i) j v w h k e = absurd (cc)

the_dict : DictAt dict_layout known dict_ghost dict_heap dict_blocks [] words 0 (Ptr 2)
the_dict = record {
  pairs = (MeantWord (pos 7), MeantWord (pos 70)) ∷ [];
  object = refl;
  places = 2;
  one = Ptr 0;
  two = Ptr 1;
  head_use = refl;
  head_is = refl;
  arrays = inr (record {
    keys = Word (pos 7) ∷ [];
    values = Word (pos 70) ∷ [];
    spare_keys = Word (pos 0) ∷ [];
    spare_values = Word (pos 0) ∷ [];
    index = index;
    first_use = refl;
    second_use = refl;
    first_is = refl;
    second_is = refl;
    each_key = More (a_word (pos 7) (omega (arith, ints))) Empty;
    each_value = More (a_word (pos 70) (omega (arith, ints))) Empty;
    no_keys = (refl, tt);
    no_values = (refl, tt);
    key_places = refl;
    value_places = refl;
    indexed = is_index;
  });
  apart = one_key;
  few = omega arith;
}

-- ---- the heap

none_stays : (x : Value) (block : Block) → use_of dict_ghost x ≡ Some (Stays block) → found dict_blocks [] x ≡ Some block
none_stays (Ptr zero) block h = absurd (cc)
none_stays (Ptr (suc zero)) block h = absurd (cc)
none_stays (Ptr (suc (suc zero))) block h = absurd (cc)
none_stays (Ptr (suc (suc (suc n)))) block h = absurd (cc)
none_stays (Static s) block h = absurd (cc)
none_stays _ block h = absurd (cc)

none_settled : (x : Value) (block : Block) → found dict_blocks [] x ≡ Some block → is_settled dict_layout block.kind ≡ true → use_of dict_ghost x ≡ Some (Stays block)
none_settled (Ptr zero) block h k = (let q : 2 ≡ block.kind = cc in let e : false ≡ true = ap (is_settled dict_layout) q ∙ k in absurd (cc))
none_settled (Ptr (suc zero)) block h k = (let q : 3 ≡ block.kind = cc in let e : false ≡ true = ap (is_settled dict_layout) q ∙ k in absurd (cc))
none_settled (Ptr (suc (suc zero))) block h k = (let q : 1 ≡ block.kind = cc in let e : false ≡ true = ap (is_settled dict_layout) q ∙ k in absurd (cc))
none_settled (Ptr (suc (suc (suc n)))) block h k = absurd (cc)
none_settled (Static s) block h k = absurd (cc)
none_settled _ block h k = absurd (cc)

same_home : {x y : Home} → Some x ≡ Some y → x ≡ y
same_home h = cc

abbrev dict_in : Sort → ℕ
dict_in (DictOf n) = n
dict_in other = 0

same_mapping : {a b : Mapping} → Some a ≡ Some b → a ≡ b
same_mapping h = cc

the_dicts : (n i : ℕ) (head : Value) (m : Mapping) → slice_get dict_ghost.homes i ≡ Some (record { sort = DictOf n; head = head }) → mapping_at dict_layout.mappings n ≡ Some m → DictAt dict_layout known dict_ghost dict_heap dict_blocks [] m i head
the_dicts n zero head m h is =
    let q = same_home h in
    let number : 1 ≡ n = ap (λ (x : Home). dict_in x.sort) q in
    subst (λ y. DictAt dict_layout known dict_ghost dict_heap dict_blocks [] m 0 y) (ap (λ (x : Home). x.head) q)
    (subst (λ m. DictAt dict_layout known dict_ghost dict_heap dict_blocks [] m 0 (Ptr 2)) (same_mapping (ap (mapping_at dict_layout.mappings) number ∙ is)) the_dict)
the_dicts n (suc i) head m h is = absurd (cc)

no_lists : (n i : ℕ) (head : Value) → slice_get dict_ghost.homes i ≡ Some (record { sort = ListOf n; head = head }) → ⊥
no_lists n zero head h = (let q : DictOf 1 ≡ ListOf n = ap (λ (h : Home). h.sort) (same_home h) in absurd (cc))
no_lists n (suc i) head h = absurd (cc)

no_instances : (class i : ℕ) (head : Value) → slice_get dict_ghost.homes i ≡ Some (record { sort = InstanceOf class; head = head }) → ⊥
no_instances class zero head h = (let q : DictOf 1 ≡ InstanceOf class = ap (λ (h : Home). h.sort) (same_home h) in absurd (cc))
no_instances class (suc i) head h = absurd (cc)

pub one_entry : OneEntry
one_entry = record {
  made = refl;
  fixed = refl;
  homes = refl;
  few = omega arith;
  stays = none_stays;
  settled = none_settled;
  constants = λ s block h. absurd (cc);
  vtables = λ class l h. absurd (cc);
  exceptions = λ class l h k. absurd (cc);
  sites = λ site home h. absurd (cc);
  lists = λ n i head h struct. absurd (no_lists n i head h);
  instances = λ class i head h. absurd (no_instances class i head h);
  dicts = the_dicts;
}
