-- A list of new tuples is made: an array, a head, and a block for each tuple.
use Rattle.std.proofs.Common.{◌≡◌, ◌≤◌, ◌⊎◌, inl, inr, ℕ, zero, suc, ◌+◌, true, List, [], ◌∷◌, ◌++◌, length, Option, Some, None, refl, sym, ap, ◌∙◌, subst, arith, length-append}
use Rattle.std.specs.Prelude.{slice_get, slice_index_or}
use Rattle.csub_tree.specs.State.{Value, Static, Block}
use Rattle.ll_texts.specs.Texts.{found}
use Rattle.rpy_tree.specs.Value.{Object, Heap}
use Rattle.rtyper_layout.specs.declared.layout.Layout.{Layout}
use Rattle.rtyper_layout.specs.declared.dicts.Mapping.{Mapping}
use Rattle.rtyper_layout.specs.Layout.{is_list, mapping_at}
use Rattle.object_laws.specs.Dicts.{DictAt}
use Rattle.object_laws.specs.Known.{Known}
use Rattle.object_laws.specs.Ghost.{Ghost, Grown, Home, ListOf, InstanceOf, DictOf, Use, Stays, use_of}
use Rattle.object_laws.specs.Represents.{Represents, ListAt, InstanceAt, Settled}
use Rattle.object_laws.proofs.Changing.{list_kept, instance_kept, dict_kept}
use Rattle.object_laws.proofs.Growing.{get_more, use_grows, home_grows}
use Rattle.object_laws.proofs.Made.{found_more, last_one, object_grown, with_object}
use Rattle.dict_find_laws.proofs.Pairing.{pair_block, pair_blocks, pointers}
use Rattle.dict_find_laws.proofs.Read.{same_some}

-- a new object, among whose blocks some stay
pub list_with : {layout : Layout} {known : Known} {g : Ghost} {heap : Heap} {left fewer : ℕ} {blocks : List (Option Block)} {statics : List Block} (object : Object) (uses : List Use) (home : Home) (more : List (Option Block))
    → Represents layout known g heap left blocks statics → fewer ≤ left → length uses ≡ length more
    → ((x : Value) (block : Block) → use_of (with_object g uses home) x ≡ Some (Stays block) → found (blocks ++ more) statics x ≡ Some block)
    → Settled layout (with_object g uses home) (blocks ++ more) statics
    → ((n : ℕ) (head : Value) → home ≡ record { sort = ListOf n; head = head } → is_list layout n ≡ true → ListAt layout known (with_object g uses home) (heap ++ object ∷ []) fewer (blocks ++ more) statics n (length heap) head)
    → ((class : ℕ) (head : Value) → home ≡ record { sort = InstanceOf class; head = head } → InstanceAt layout known (with_object g uses home) (heap ++ object ∷ []) (blocks ++ more) statics class (length heap) head)
    → ((n : ℕ) (head : Value) (m : Mapping) → home ≡ record { sort = DictOf n; head = head } → mapping_at layout.mappings n ≡ Some m → DictAt layout known (with_object g uses home) (heap ++ object ∷ []) (blocks ++ more) statics m (length heap) head)
    → Represents layout known (with_object g uses home) (heap ++ object ∷ []) fewer (blocks ++ more) statics
list_with {layout = layout} {known = known} {g = g} {heap = heap} {left = left} {fewer = fewer} {blocks = blocks} {statics = statics} object uses home more r less same stays settled list_here instance_here dict_here = record {
  made = length-append g.blocks uses ∙ ap (λ k. k + length uses) r.made ∙ ap (λ k. length blocks + k) same ∙ sym (length-append blocks more);
  fixed = r.fixed;
  homes = length-append g.homes (home ∷ []) ∙ ap (λ k. k + 1) r.homes ∙ sym (length-append heap (object ∷ []));
  few = (let f = r.few in omega (arith, f, less));
  stays = stays;
  settled = settled;
  constants = λ s block h. use_grows grown (Static s) _ (r.constants s block h);
  vtables = λ class l h. use_grows grown (known.vtable class).at _ (r.vtables class l h);
  exceptions = λ class l h k. home_grows grown class _ (r.exceptions class l h k);
  sites = λ site home h. home_grows grown _ _ (r.sites site home h);
  lists = λ n j head h struct. list_at n j head struct (last_one g.homes home j _ h);
  instances = λ class j head h. instance_at class j head (last_one g.homes home j _ h);
  dicts = λ n j head m h is. dict_at n j head m is (last_one g.homes home j _ h);
}
  where
    grown : Grown g (with_object g uses home)
    grown = object_grown g uses home

    object_is : (j : ℕ) (o : Object) → slice_get heap j ≡ Some o → slice_get (heap ++ object ∷ []) j ≡ Some o
    object_is j o h = get_more heap (object ∷ []) j o h

    list_at : (n j : ℕ) (head : Value) → is_list layout n ≡ true → (slice_get g.homes j ≡ Some (record { sort = ListOf n; head = head })) ⊎ ((j ≡ length g.homes) × (record { sort = ListOf n; head = head } ≡ home)) → ListAt layout known (with_object g uses home) (heap ++ object ∷ []) fewer (blocks ++ more) statics n j head
    list_at n j head struct (inl k) = list_kept grown j head (object_is j) (λ x u b h of is. found_more blocks more statics x b is) n less (r.lists n j head k struct)
    list_at n j head struct (inr (at, e)) = subst (λ k. ListAt layout known (with_object g uses home) (heap ++ object ∷ []) fewer (blocks ++ more) statics n k head) (sym (at ∙ r.homes)) (list_here n head (sym e) struct)

    instance_at : (class j : ℕ) (head : Value) → (slice_get g.homes j ≡ Some (record { sort = InstanceOf class; head = head })) ⊎ ((j ≡ length g.homes) × (record { sort = InstanceOf class; head = head } ≡ home)) → InstanceAt layout known (with_object g uses home) (heap ++ object ∷ []) (blocks ++ more) statics class j head
    instance_at class j head (inl k) = instance_kept grown j head (object_is j) (λ x u b h of is. found_more blocks more statics x b is) class (r.instances class j head k)
    instance_at class j head (inr (at, e)) = subst (λ k. InstanceAt layout known (with_object g uses home) (heap ++ object ∷ []) (blocks ++ more) statics class k head) (sym (at ∙ r.homes)) (instance_here class head (sym e))

    dict_at : (n j : ℕ) (head : Value) (m : Mapping) → mapping_at layout.mappings n ≡ Some m → (slice_get g.homes j ≡ Some (record { sort = DictOf n; head = head })) ⊎ ((j ≡ length g.homes) × (record { sort = DictOf n; head = head } ≡ home)) → DictAt layout known (with_object g uses home) (heap ++ object ∷ []) (blocks ++ more) statics m j head
    dict_at n j head m is (inl k) = dict_kept grown j head (object_is j) (λ x u b h of is. found_more blocks more statics x b is) m (r.dicts n j head m k is)
    dict_at n j head m is (inr (at, e)) = subst (λ k. DictAt layout known (with_object g uses home) (heap ++ object ∷ []) (blocks ++ more) statics m k head) (sym (at ∙ r.homes)) (dict_here n head m (sym e) is)

-- ---- what stands behind others

module _ {A : Type 0} where
  -- what stands there stood there, or is behind
  pub in_either : (xs ys : List A) (n : ℕ) (u : A) → slice_get (xs ++ ys) n ≡ Some u → (slice_get xs n ≡ Some u) ⊎ ((j : ℕ) × (slice_get ys j ≡ Some u) × (n ≡ length xs + j))
  in_either [] ys n u h = inr (n, h, (let q : n ≡ 0 + n = omega arith in q))
  in_either (x ∷ xs) ys zero u h = inl h
  in_either (x ∷ xs) ys (suc n) u h = next (in_either xs ys n u h)
    where
      next : (slice_get xs n ≡ Some u) ⊎ ((j : ℕ) × (slice_get ys j ≡ Some u) × (n ≡ length xs + j)) → (slice_get xs n ≡ Some u) ⊎ ((j : ℕ) × (slice_get ys j ≡ Some u) × (suc n ≡ suc (length xs) + j))
      next (inl k) = inl k
      next (inr k) = inr (k.0, k.1, (let q = k.2 in omega (arith, q)))

  pub get_behind : (xs ys : List A) (n j : ℕ) → n ≡ length xs + j → slice_get (xs ++ ys) n ≡ slice_get ys j
  get_behind [] ys n j h = ap (slice_get ys) (let q : n ≡ j = omega (arith, h) in q)
  get_behind (x ∷ xs) ys zero j h = absurd (omega (arith, h))
  get_behind (x ∷ xs) ys (suc n) j h = get_behind xs ys n j (omega (arith, h))

pub block_in_either : (xs ys : List (Option Block)) (n : ℕ) (b : Block) → slice_index_or (xs ++ ys) n None ≡ Some b → (slice_index_or xs n None ≡ Some b) ⊎ ((j : ℕ) × (slice_index_or ys j None ≡ Some b) × (n ≡ length xs + j))
block_in_either [] ys n b h = inr (n, h, (let q : n ≡ 0 + n = omega arith in q))
block_in_either (x ∷ xs) ys zero b h = inl h
block_in_either (x ∷ xs) ys (suc n) b h = next (block_in_either xs ys n b h)
  where
    next : (slice_index_or xs n None ≡ Some b) ⊎ ((j : ℕ) × (slice_index_or ys j None ≡ Some b) × (n ≡ length xs + j)) → (slice_index_or xs n None ≡ Some b) ⊎ ((j : ℕ) × (slice_index_or ys j None ≡ Some b) × (suc n ≡ suc (length xs) + j))
    next (inl k) = inl k
    next (inr k) = inr (k.0, k.1, (let q = k.2 in omega (arith, q)))

pub block_behind : (xs ys : List (Option Block)) (n j : ℕ) → n ≡ length xs + j → slice_index_or (xs ++ ys) n None ≡ slice_index_or ys j None
block_behind [] ys n j h = ap (λ k. slice_index_or ys k None) (let q : n ≡ j = omega (arith, h) in q)
block_behind (x ∷ xs) ys zero j h = absurd (omega (arith, h))
block_behind (x ∷ xs) ys (suc n) j h = block_behind xs ys n j (omega (arith, h))

-- ---- tuples

abbrev pub pair_uses : ℕ → List (Value × Value) → List Use
pair_uses t [] = []
pair_uses t (z ∷ zs) = Stays (pair_block t z) ∷ pair_uses t zs

pub pairs_stay : (t : ℕ) (zs : List (Value × Value)) (j : ℕ) (block : Block) → slice_get (pair_uses t zs) j ≡ Some (Stays block) → slice_index_or (pair_blocks t zs) j None ≡ Some block
pairs_stay t [] j block h = absurd (cc)
pairs_stay t (z ∷ zs) zero block h = (let q : pair_block t z ≡ block = same_stay (pair_block t z) block h in ap Some q)
  where
    same_stay : (a b : Block) → Some (Stays a) ≡ Some (Stays b) → a ≡ b
    same_stay a b e = cc
pairs_stay t (z ∷ zs) (suc j) block h = pairs_stay t zs j block h

pub pairs_settle : (t : ℕ) (zs : List (Value × Value)) (j : ℕ) (block : Block) → slice_index_or (pair_blocks t zs) j None ≡ Some block → slice_get (pair_uses t zs) j ≡ Some (Stays block)
pairs_settle t [] j block h = absurd (cc)
pairs_settle t (z ∷ zs) zero block h = (let q : pair_block t z ≡ block = same_some (pair_block t z) block h in ap (λ b. Some (Stays b)) q)
pairs_settle t (z ∷ zs) (suc j) block h = pairs_settle t zs j block h

pub pairs_counted : (t : ℕ) (zs : List (Value × Value)) → length (pair_uses t zs) ≡ length (pair_blocks t zs)
pairs_counted t [] = refl
pairs_counted t (z ∷ zs) = ap suc (pairs_counted t zs)

pub pair_blocks_long : (t : ℕ) (zs : List (Value × Value)) → length (pair_blocks t zs) ≡ length zs
pair_blocks_long t [] = refl
pair_blocks_long t (z ∷ zs) = ap suc (pair_blocks_long t zs)

pub pair_use_at : (t : ℕ) (zs : List (Value × Value)) (j : ℕ) (z : Value × Value) → slice_get zs j ≡ Some z → slice_get (pair_uses t zs) j ≡ Some (Stays (pair_block t z))
pair_use_at t [] j z h = absurd (cc)
pair_use_at t (y ∷ zs) zero z h = (let q : y ≡ z = same_some y z h in ap (λ z. Some (Stays (pair_block t z))) q)
pair_use_at t (y ∷ zs) (suc j) z h = pair_use_at t zs j z h

pub pointers_long : (base j n : ℕ) → length (pointers base j n) ≡ n
pointers_long base j zero = refl
pointers_long base j (suc n) = ap suc (pointers_long base (suc j) n)
