-- Memory with a new list, and strings that were made for it, represents the heap with the list.
use Rattle.std.proofs.Common.{◌≡◌, ◌<◌, ◌≤◌, ◌⊎◌, inl, inr, ℕ, zero, suc, ◌+◌, ◌^◌, true, false, List, [], ◌∷◌, ◌++◌, length, map, Option, Some, None, refl, sym, ap, ◌∙◌, subst, arith}
use Rattle.std.specs.Prelude.{slice_get, slice_index_or}
use Rattle.std.proofs.lemmas.List.{append-nil}
use Rattle.csub_tree.specs.State.{Value, Ptr, Static, Block}
use Rattle.ll_texts.specs.Follows.{text_blocks}
use Rattle.ll_texts.specs.Texts.{found, text_block}
use Rattle.rpy_tree.specs.Value.{Value as Meant, Listed, Heap}
use Rattle.rtyper_layout.specs.declared.layout.Layout.{Layout}
use Rattle.rtyper_layout.specs.Layout.{is_list}
use Rattle.rtyper_layout.specs.Types.{word}
use Rattle.object_laws.specs.Known.{Known}
use Rattle.object_laws.specs.Ghost.{Ghost, Grown, Home, Sort, ListOf, InstanceOf, DictOf, Use, Stays, Head, Array, use_of}
use Rattle.object_laws.specs.Represents.{Represents, ListAt, HasRoom, Settled, is_settled, head_block, array_block}
use Rattle.object_laws.specs.Values.{EachHolds}
use Rattle.object_laws.proofs.Growing.{get_more}
use Rattle.object_laws.proofs.Made.{found_more, get_first, list_home, object_grown, with_object}
use Rattle.dict_find_laws.proofs.Brought.{block_behind, block_in_either, get_behind, in_either, list_with}

-- ---- strings that stay

abbrev pub text_uses : List (List ℕ) → List Use
text_uses texts = map (λ bytes. Stays (text_block bytes)) texts

same_block : (a b : Block) → Some a ≡ Some b → a ≡ b
same_block a b h = cc

texts_stay : (texts : List (List ℕ)) (j : ℕ) (block : Block) → slice_get (text_uses texts) j ≡ Some (Stays block) → slice_index_or (text_blocks texts) j None ≡ Some block
texts_stay [] j block h = absurd (cc)
texts_stay (t ∷ texts) zero block h = (let q : text_block t ≡ block = same_stay (text_block t) block h in ap Some q)
  where
    same_stay : (a b : Block) → Some (Stays a) ≡ Some (Stays b) → a ≡ b
    same_stay a b e = cc
texts_stay (t ∷ texts) (suc j) block h = texts_stay texts j block h

texts_settle : (texts : List (List ℕ)) (j : ℕ) (block : Block) → slice_index_or (text_blocks texts) j None ≡ Some block → slice_get (text_uses texts) j ≡ Some (Stays block)
texts_settle [] j block h = absurd (cc)
texts_settle (t ∷ texts) zero block h = (let q : text_block t ≡ block = same_block (text_block t) block h in ap (λ b. Some (Stays b)) q)
texts_settle (t ∷ texts) (suc j) block h = texts_settle texts j block h

texts_counted : (texts : List (List ℕ)) → length (text_uses texts) ≡ length (text_blocks texts)
texts_counted [] = refl
texts_counted (t ∷ texts) = ap suc (texts_counted texts)

pub text_use_at : (texts : List (List ℕ)) (j : ℕ) (t : List ℕ) → slice_get texts j ≡ Some t → slice_get (text_uses texts) j ≡ Some (Stays (text_block t))
text_use_at [] j t h = absurd (cc)
text_use_at (u ∷ texts) zero t h = (let q : u ≡ t = same u t h in ap (λ t. Some (Stays (text_block t))) q)
  where
    same : (a b : List ℕ) → Some a ≡ Some b → a ≡ b
    same a b e = cc
text_use_at (u ∷ texts) (suc j) t h = text_use_at texts j t h

-- ---- the list

abbrev list_in : Sort → ℕ
list_in (ListOf n) = n
list_in other = 0

no_instance : {n class : ℕ} {x y : Value} {home : Home} → home ≡ record { sort = ListOf n; head = x } → home ≡ record { sort = InstanceOf class; head = y } → ⊥
no_instance {n = n} {class = class} h k = (let q : ListOf n ≡ InstanceOf class = ap (λ (x : Home). x.sort) (sym h ∙ k) in absurd (cc))

no_dict : {n m : ℕ} {x y : Value} {home : Home} → home ≡ record { sort = ListOf n; head = x } → home ≡ record { sort = DictOf m; head = y } → ⊥
no_dict {n = n} {m = m} h k = (let q : ListOf n ≡ DictOf m = ap (λ (x : Home). x.sort) (sym h ∙ k) in absurd (cc))

-- what each block is for: an array, a head, and strings
abbrev pub with_texts : Ghost → ℕ → ℕ → List (List ℕ) → Ghost
with_texts g n i texts = with_object g (Array i ∷ Head i ∷ text_uses texts) (list_home g n)

pub texts_grown : (g : Ghost) (n i : ℕ) (texts : List (List ℕ)) → Grown g (with_texts g n i texts)
texts_grown g n i texts = object_grown g (Array i ∷ Head i ∷ text_uses texts) (list_home g n)

module _ {layout : Layout} {known : Known} {g : Ghost} {heap : Heap} {left : ℕ} {blocks : List (Option Block)} {statics : List Block} (r : Represents layout known g heap left blocks statics) (n fewer : ℕ) (texts : List (List ℕ)) where
  abbrev i : ℕ
  i = length heap

  abbrev uses : List Use
  uses = Array i ∷ Head i ∷ text_uses texts

  abbrev ghost : Ghost
  ghost = with_texts g n i texts

  abbrev base : ℕ
  base = length blocks

  -- a string has its use behind the array and the head
  pub text_use_is : (j : ℕ) (t : List ℕ) → slice_get texts j ≡ Some t → use_of ghost (Ptr (base + 2 + j)) ≡ Some (Stays (text_block t))
  text_use_is j t h = get_behind g.blocks uses (base + 2 + j) (suc (suc j)) (let q = r.made in omega (arith, q)) ∙ text_use_at texts j t h

  module _ (xs : List Value) (vs : List Meant) (less : fewer ≤ left) (struct : is_list layout n ≡ true) (each : EachHolds layout known ghost (known.items n) xs vs) (short : length xs < 2 ^ 63) (room : HasRoom (length vs) fewer)
      (apart : (is_settled layout n ≡ false) × (is_settled layout (word (n + 1)) ≡ false)) where
    abbrev more : List (Option Block)
    more = Some (array_block n xs) ∷ Some (head_block n (length vs) (Ptr base)) ∷ text_blocks texts

    stays : (x : Value) (block : Block) → use_of ghost x ≡ Some (Stays block) → found (blocks ++ more) statics x ≡ Some block
    stays (Ptr m) block h = by (in_either g.blocks uses m (Stays block) h)
      where
        behind : (j : ℕ) → slice_get uses j ≡ Some (Stays block) → m ≡ length g.blocks + j → slice_index_or (blocks ++ more) m None ≡ Some block
        behind zero k at = absurd (cc)
        behind (suc zero) k at = absurd (cc)
        behind (suc (suc j)) k at = block_behind blocks more m (suc (suc j)) (at ∙ ap (λ b. b + suc (suc j)) r.made) ∙ texts_stay texts j block k

        by : (slice_get g.blocks m ≡ Some (Stays block)) ⊎ ((j : ℕ) × (slice_get uses j ≡ Some (Stays block)) × (m ≡ length g.blocks + j)) → slice_index_or (blocks ++ more) m None ≡ Some block
        by (inl k) = found_more blocks more statics (Ptr m) block (r.stays (Ptr m) block k)
        by (inr k) = behind k.0 k.1 k.2
    stays (Static s) block h = r.stays (Static s) block h
    stays _ block h = absurd (cc)

    settled : Settled layout ghost (blocks ++ more) statics
    settled (Ptr m) block h fixed = by (block_in_either blocks more m block h)
      where
        never : (b : Block) → is_settled layout b.kind ≡ false → Some b ≡ Some block → ⊥
        never b unset e = (let q : b ≡ block = same_block b block e in let q2 : false ≡ true = sym unset ∙ ap (λ (b : Block). is_settled layout b.kind) q ∙ fixed in absurd (cc))

        behind : (j : ℕ) → slice_index_or more j None ≡ Some block → m ≡ length blocks + j → slice_get (g.blocks ++ uses) m ≡ Some (Stays block)
        behind zero k at = absurd (never (array_block n xs) apart.1 k)
        behind (suc zero) k at = absurd (never (head_block n (length vs) (Ptr base)) apart.0 k)
        behind (suc (suc j)) k at = get_behind g.blocks uses m (suc (suc j)) (at ∙ ap (λ b. b + suc (suc j)) (sym r.made)) ∙ texts_settle texts j block k

        by : (slice_index_or blocks m None ≡ Some block) ⊎ ((j : ℕ) × (slice_index_or more j None ≡ Some block) × (m ≡ length blocks + j)) → slice_get (g.blocks ++ uses) m ≡ Some (Stays block)
        by (inl k) = get_more g.blocks uses m (Stays block) (r.settled (Ptr m) block k fixed)
        by (inr k) = behind k.0 k.1 k.2
    settled (Static s) block h fixed = r.settled (Static s) block h fixed
    settled _ block h fixed = absurd (cc)

    new_list : ListAt layout known ghost (heap ++ Listed vs ∷ []) fewer (blocks ++ more) statics n i (Ptr (length g.blocks + 1))
    new_list = record {
      items = vs;
      object = get_first heap [] (Listed vs) i refl;
      array = Ptr base;
      values = xs;
      spare = [];
      head_use = get_behind g.blocks uses (length g.blocks + 1) 1 refl;
      array_use = get_behind g.blocks uses base 0 (let q = r.made in omega (arith, q));
      head_is = block_behind blocks more (length g.blocks + 1) 1 (ap (λ k. k + 1) r.made);
      array_is = block_behind blocks more base 0 (omega arith) ∙ ap (λ l. Some (array_block n l)) (sym (append-nil xs));
      each = each;
      empty = tt;
      long = subst (λ l. length l < 2 ^ 63) (sym (append-nil xs)) short;
      room = room;
    }

    pub texts_listed : Represents layout known ghost (heap ++ Listed vs ∷ []) fewer (blocks ++ more) statics
    texts_listed = list_with (Listed vs) uses (list_home g n) more r less (ap (λ n. suc (suc n)) (texts_counted texts)) stays settled here (λ class head h. absurd (no_instance refl h)) (λ k head m h is. absurd (no_dict refl h))
      where
        here : (m : ℕ) (head : Value) → list_home g n ≡ record { sort = ListOf m; head = head } → is_list layout m ≡ true → ListAt layout known ghost (heap ++ Listed vs ∷ []) fewer (blocks ++ more) statics m i head
        here m head e is =
            subst (λ y. ListAt layout known ghost (heap ++ Listed vs ∷ []) fewer (blocks ++ more) statics m i y) (ap (λ (x : Home). x.head) e)
            (subst (λ s. ListAt layout known ghost (heap ++ Listed vs ∷ []) fewer (blocks ++ more) statics s i (Ptr (length g.blocks + 1))) (ap (λ (x : Home). list_in x.sort) e) new_list)
