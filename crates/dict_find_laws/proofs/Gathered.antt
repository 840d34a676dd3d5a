-- Memory with a list of new tuples represents the heap with the list of pairs.
use Rattle.std.proofs.Common.{◌≡◌, ◌<◌, ◌≤◌, ◌⊎◌, inl, inr, ℕ, zero, suc, ◌+◌, ◌^◌, true, false, List, [], ◌∷◌, ◌++◌, length, map, Option, Some, None, refl, sym, ap, ◌∙◌, subst, arith}
use Rattle.std.specs.Prelude.{slice_get, slice_index_or}
use Rattle.std.proofs.lemmas.List.{append-nil}
use Rattle.ann_element.specs.declared.element.Element.{Element}
use Rattle.ann_element.specs.declared.element.Element.TheVariants as element
use Rattle.csub_tree.specs.State.{Value, Ptr, Static, Block}
use Rattle.ll_code.specs.declared.program.LlType.TheVariants as type
use Rattle.ll_texts.specs.Texts.{found}
use Rattle.rpy_tree.specs.Value.{Value as Meant, Listed, Heap}
use Rattle.rpy_meaning.specs.Sequences.{tuple}
use Rattle.rtyper_layout.specs.declared.layout.Layout.{Layout}
use Rattle.rtyper_layout.specs.Types.{type_seen, word}
use Rattle.rtyper_layout.specs.Layout.{is_list}
use Rattle.object_laws.specs.Dicts.{keys_of, values_of}
use Rattle.object_laws.specs.Known.{Known}
use Rattle.object_laws.specs.Ghost.{Ghost, Grown, Home, Sort, ListOf, InstanceOf, DictOf, Use, Stays, Head, Array, use_of}
use Rattle.object_laws.specs.Represents.{Represents, ListAt, HasRoom, Settled, is_settled, head_block, array_block}
use Rattle.object_laws.specs.Values.{EachHolds, Empty, Items, More, End, Next}
use Rattle.object_laws.proofs.Growing.{holds_grows, get_more}
use Rattle.object_laws.proofs.Made.{found_more, get_first, list_home, object_grown, with_object}
use Rattle.dict_find_laws.proofs.Brought.{block_behind, block_in_either, get_behind, in_either, list_with, pair_use_at, pair_uses, pairs_counted, pairs_settle, pairs_stay, pointers_long}
use Rattle.dict_find_laws.proofs.Pairing.{pair_block, pair_blocks, pointers}
use Rattle.dict_find_laws.proofs.Zipped.{zipped}

-- pairs as tuples
abbrev pub tuples_of : List (Meant × Meant) → List Meant
tuples_of pairs = map (λ (q : Meant × Meant). tuple (q.0 ∷ q.1 ∷ [])) pairs

abbrev list_in : Sort → ℕ
list_in (ListOf n) = n
list_in other = 0

no_instance : {n class : ℕ} {x y : Value} {home : Home} → home ≡ record { sort = ListOf n; head = x } → home ≡ record { sort = InstanceOf class; head = y } → ⊥
no_instance {n = n} {class = class} h k = (let q : ListOf n ≡ InstanceOf class = ap (λ (x : Home). x.sort) (sym h ∙ k) in absurd (cc))

no_dict : {n m : ℕ} {x y : Value} {home : Home} → home ≡ record { sort = ListOf n; head = x } → home ≡ record { sort = DictOf m; head = y } → ⊥
no_dict {n = n} {m = m} h k = (let q : ListOf n ≡ DictOf m = ap (λ (x : Home). x.sort) (sym h ∙ k) in absurd (cc))

same_block : (a b : Block) → Some a ≡ Some b → a ≡ b
same_block a b h = cc

module _ {layout : Layout} {known : Known} {g : Ghost} {heap : Heap} {left : ℕ} {blocks : List (Option Block)} {statics : List Block} (r : Represents layout known g heap left blocks statics) (l t fewer : ℕ) (xs us : List Value) (pairs : List (Meant × Meant)) (item key value : Element)
    (less : fewer ≤ left) (struct : is_list layout l ≡ true) (item_is : known.items l ≡ Some item) (tuple_is : item ≡ element.Tuple (key ∷ value ∷ [])) (typed : type_seen layout (Some item) ≡ type.Ptr t)
    (each_key : EachHolds layout known g (Some key) xs (keys_of pairs)) (each_value : EachHolds layout known g (Some value) us (values_of pairs)) (long : length (zipped xs us) ≡ length pairs) (short : length pairs < 2 ^ 63) (room : HasRoom (length pairs) fewer) (tuples_long : length (tuples_of pairs) ≡ length pairs)
    (apart : (is_settled layout l ≡ false) × (is_settled layout (word (l + 1)) ≡ false)) where
  abbrev i : ℕ
  i = length heap

  abbrev zs : List (Value × Value)
  zs = zipped xs us

  abbrev uses : List Use
  uses = Array i ∷ Head i ∷ pair_uses t zs

  abbrev pub ghost : Ghost
  ghost = with_object g uses (list_home g l)

  pub grown : Grown g ghost
  grown = object_grown g uses (list_home g l)

  abbrev base : ℕ
  base = length blocks

  abbrev items : List Value
  items = pointers base 0 (length pairs)

  abbrev more : List (Option Block)
  more = Some (array_block l items) ∷ Some (head_block l (length (tuples_of pairs)) (Ptr base)) ∷ pair_blocks t zs

  stays : (x : Value) (block : Block) → use_of ghost x ≡ Some (Stays block) → found (blocks ++ more) statics x ≡ Some block
  stays (Ptr n) block h = by (in_either g.blocks uses n (Stays block) h)
    where
      behind : (j : ℕ) → slice_get uses j ≡ Some (Stays block) → n ≡ length g.blocks + j → slice_index_or (blocks ++ more) n None ≡ Some block
      behind zero k at = absurd (cc)
      behind (suc zero) k at = absurd (cc)
      behind (suc (suc j)) k at = block_behind blocks more n (suc (suc j)) (at ∙ ap (λ b. b + suc (suc j)) r.made) ∙ pairs_stay t zs j block k

      by : (slice_get g.blocks n ≡ Some (Stays block)) ⊎ ((j : ℕ) × (slice_get uses j ≡ Some (Stays block)) × (n ≡ length g.blocks + j)) → slice_index_or (blocks ++ more) n None ≡ Some block
      by (inl k) = found_more blocks more statics (Ptr n) block (r.stays (Ptr n) block k)
      by (inr k) = behind k.0 k.1 k.2
  stays (Static s) block h = r.stays (Static s) block h
  stays _ block h = absurd (cc)

  settled : Settled layout ghost (blocks ++ more) statics
  settled (Ptr n) block h fixed = by (block_in_either blocks more n block h)
    where
      never : (b : Block) → is_settled layout b.kind ≡ false → Some b ≡ Some block → ⊥
      never b unset e = (let q : b ≡ block = same_block b block e in let q2 : false ≡ true = sym unset ∙ ap (λ (b : Block). is_settled layout b.kind) q ∙ fixed in absurd (cc))

      behind : (j : ℕ) → slice_index_or more j None ≡ Some block → n ≡ length blocks + j → slice_get (g.blocks ++ uses) n ≡ Some (Stays block)
      behind zero k at = absurd (never (array_block l items) apart.1 k)
      behind (suc zero) k at = absurd (never (head_block l (length (tuples_of pairs)) (Ptr base)) apart.0 k)
      behind (suc (suc j)) k at = get_behind g.blocks uses n (suc (suc j)) (at ∙ ap (λ b. b + suc (suc j)) (sym r.made)) ∙ pairs_settle t zs j block k

      by : (slice_index_or blocks n None ≡ Some block) ⊎ ((j : ℕ) × (slice_index_or more j None ≡ Some block) × (n ≡ length blocks + j)) → slice_get (g.blocks ++ uses) n ≡ Some (Stays block)
      by (inl k) = get_more g.blocks uses n (Stays block) (r.settled (Ptr n) block k fixed)
      by (inr k) = behind k.0 k.1 k.2
  settled (Static s) block h fixed = r.settled (Static s) block h fixed
  settled _ block h fixed = absurd (cc)

  use_behind : (j : ℕ) (z : Value × Value) → slice_get zs j ≡ Some z → use_of ghost (Ptr (base + 2 + j)) ≡ Some (Stays (pair_block t z))
  use_behind j z h = get_behind g.blocks uses (base + 2 + j) (suc (suc j)) (let q = r.made in omega (arith, q)) ∙ pair_use_at t zs j z h

  each_pair : {ks vs : List Value} (ps : List (Meant × Meant)) (j : ℕ) → EachHolds layout known g (Some key) ks (keys_of ps) → EachHolds layout known g (Some value) vs (values_of ps)
      → ((n : ℕ) (z : Value × Value) → slice_get (zipped ks vs) n ≡ Some z → use_of ghost (Ptr (base + 2 + (j + n))) ≡ Some (Stays (pair_block t z))) → EachHolds layout known ghost (Some item) (pointers base j (length ps)) (tuples_of ps)
  each_pair [] j Empty Empty used = Empty
  each_pair (q ∷ ps) j (More {x = x} {xs = ks} h hs) (More {x = u} {xs = vs} k rest) used =
      More (Items (key ∷ value ∷ []) t (x ∷ u ∷ []) (q.0 ∷ q.1 ∷ []) (ap Some tuple_is) refl typed (ap (λ n. use_of ghost (Ptr (base + 2 + n))) (let e : j ≡ j + 0 = omega arith in e) ∙ used 0 (x, u) refl) (Next (holds_grows grown h) (Next (holds_grows grown k) End)))
      (each_pair ps (suc j) hs rest (λ n z e. ap (λ n. use_of ghost (Ptr (base + 2 + n))) (let e : suc j + n ≡ j + suc n = omega arith in e) ∙ used (suc n) z e))

  new_list : ListAt layout known ghost (heap ++ Listed (tuples_of pairs) ∷ []) fewer (blocks ++ more) statics l i (Ptr (length g.blocks + 1))
  new_list = record {
    items = tuples_of pairs;
    object = get_first heap [] (Listed (tuples_of pairs)) i refl;
    array = Ptr base;
    values = items;
    spare = [];
    head_use = get_behind g.blocks uses (length g.blocks + 1) 1 refl;
    array_use = get_behind g.blocks uses base 0 (let q = r.made in omega (arith, q));
    head_is = block_behind blocks more (length g.blocks + 1) 1 (ap (λ k. k + 1) r.made);
    array_is = block_behind blocks more base 0 (omega arith) ∙ ap (λ l2. Some (array_block l l2)) (sym (append-nil items));
    each = subst (λ s. EachHolds layout known ghost s items (tuples_of pairs)) (sym item_is) (each_pair pairs 0 each_key each_value (λ n z h. ap (λ n. use_of ghost (Ptr (base + 2 + n))) (let e : 0 + n ≡ n = omega arith in e) ∙ use_behind n z h));
    empty = tt;
    long = subst (λ l2. length l2 < 2 ^ 63) (sym (append-nil items)) (subst (λ n. n < 2 ^ 63) (sym (pointers_long base 0 (length pairs))) short);
    room = subst (λ n. HasRoom n fewer) (sym tuples_long) room;
  }

  pub gathered : Represents layout known ghost (heap ++ Listed (tuples_of pairs) ∷ []) fewer (blocks ++ more) statics
  gathered = list_with (Listed (tuples_of pairs)) uses (list_home g l) more r less (ap (λ n. suc (suc n)) (pairs_counted t zs)) stays settled here (λ class head h. absurd (no_instance refl h)) (λ k head m h is. absurd (no_dict refl h))
    where
      here : (m : ℕ) (head : Value) → list_home g l ≡ record { sort = ListOf m; head = head } → is_list layout m ≡ true → ListAt layout known ghost (heap ++ Listed (tuples_of pairs) ∷ []) fewer (blocks ++ more) statics m i head
      here m head e is =
          subst (λ y. ListAt layout known ghost (heap ++ Listed (tuples_of pairs) ∷ []) fewer (blocks ++ more) statics m i y) (ap (λ (x : Home). x.head) e)
          (subst (λ s. ListAt layout known ghost (heap ++ Listed (tuples_of pairs) ∷ []) fewer (blocks ++ more) statics s i (Ptr (length g.blocks + 1))) (ap (λ (x : Home). list_in x.sort) e) new_list)
