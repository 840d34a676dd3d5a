-- The entries of a dict that is a constant, one for each pair.
use Rattle.std.proofs.Common.{◌≡◌, ◌<◌, ℕ, zero, suc, ◌+◌, Bool, true, false, List, ◌∷◌, ◌++◌, length, map, slice_get, Option, Some, None, ℤ, refl, sym, ap, ◌∙◌, subst, arith, append_assoc, []}
use Rattle.std.specs.Prelude.{if◌then◌else◌}
use Rattle.std.proofs.lemmas.List.{append-nil, map-append}
use Rattle.ann_element.specs.declared.element.Element.{Element}
use Rattle.csub_tree.specs.State.{Value}
use Rattle.csub_tree.specs.Layout.{constant}
use Rattle.csub_tree.specs.declared.tree.CConst.{CConst}
use Rattle.csub_tree.specs.declared.tree.CStatic.{CStatic}
use Rattle.ll_code.specs.declared.program.LlType.{LlType}
use Rattle.ll_code.specs.declared.program.LlProgram.{LlProgram}
use Rattle.rpy_tree.specs.Value.{Value as Meant}
use Rattle.rpy_tree.specs.declared.program.Const.{Const}
use Rattle.rpy_tree.specs.declared.program.Site.{Site}
use Rattle.rpy_meaning.specs.Compare.{is_equal}
use Rattle.rpy_meaning.specs.Operations.{constant as meant_of}
use Rattle.rtyper_layout.specs.declared.dicts.Mapping.{Mapping}
use Rattle.rtyper_layout.specs.declared.layout.Layout.{Layout}
use Rattle.rtyper_layout.specs.Dicts.{stored_key, stored_value, type_in}
use Rattle.rtyper_layout.specs.Types.{type_seen}
use Rattle.rtyper_data.specs.declared.found.Found.{Found}
use Rattle.rtyper_data.specs.Finding.{same_constant, same_type}
use Rattle.rtyper_data.specs.Seen.{Around}
use Rattle.rtyper_op.specs.Constants.{constant_of}
use Rattle.rtyper_op.specs.Mapped.{as_word, entries_from, entry_of, hash_of, key_from, stored, with_entry, entry_at}
use Rattle.rtyper_op.specs.Prebuilt.{all_ready, is_ready}
use Rattle.growth_laws.specs.Growing.{Begins}
use Rattle.growth_laws.proofs.Fronts.{further, itself}
use Rattle.conversion_laws.specs.Constants.{IsValue}
use Rattle.conversion_laws.proofs.Cells.{constant_same}
use Rattle.dict_find_laws.specs.Keys.{AreKeys as MayBeKeys}
use Rattle.dict_laws.specs.Keys.{AreApart}
use Rattle.layout_laws.proofs.Places.{get_within, no_some, same_some}
use Rattle.object_laws.specs.Dicts.{as_item, hash}
use Rattle.object_laws.specs.Done.{HasLayout}
use Rattle.object_laws.specs.Ghost.{Ghost}
use Rattle.object_laws.specs.Known.{Known}
use Rattle.object_laws.specs.Values.{Holds, EachHolds, Empty, More}
use Rattle.start_laws.specs.Constants.{AreItems, AreKeys}
use Rattle.start_laws.proofs.Arrays.{kept_is}
use Rattle.start_laws.proofs.Building.{get_behind, get_first, get_map, kept_as, keys_meant, values_meant}
use Rattle.start_laws.proofs.Hashes.{constant_hashed}
use Rattle.start_laws.proofs.Keys.{stored_equal}
use Rattle.start_laws.proofs.Listing.{StandSo, both_true, one_begins, placed_type}
use Rattle.start_laws.proofs.Serving.{same_kept, AreMade, Nowhere, Texts, are_made, constant_held, constant_keeps, map_long, texts_before, value_held}

abbrev Taken : {A B : Type 0} → (A → B) → Type 0
Taken {A} {B} f = A

-- an entry, whose type has no name here
abbrev pub Entry : Type 0
Entry = Taken with_entry

abbrev pub keys_in : List Entry → List CConst
keys_in entries = map (λ (e : Entry). e.key) entries

abbrev pub values_in : List Entry → List CConst
values_in entries = map (λ (e : Entry). e.value) entries

abbrev pub hashes_in : List Entry → List ℤ
hashes_in entries = map (λ (e : Entry). e.hash) entries

-- a key that no entry has
no_key : (n : ℕ) (entries : List Entry) (key : CConst) → ((j : ℕ) (e : Entry) → slice_get entries j ≡ Some e → e.key ≡ key → ⊥) → key_from n entries key ≡ None
no_key n [] key none = refl
no_key n (e ∷ entries) key none = by (same_constant e.key key) refl (no_key (n + 1) entries key (λ j f h. none (suc j) f h))
  where
    by : (b : Bool) → same_constant e.key key ≡ b → key_from (n + 1) entries key ≡ None → (if b then Some n else key_from (n + 1) entries key) ≡ None
    by true h rest = absurd (none 0 e refl (constant_same e.key key h))
    by false h rest = rest

new_entry : (e : Entry) (entries : List Entry) → key_from 0 entries e.key ≡ None → with_entry e entries ≡ entries ++ e ∷ []
unfolding with_entry
new_entry e entries h = ap (entry_at e entries) h

stored_is : (around : Around) (c : Const) (kind item : LlType) (found : Found) → stored around c kind item found ≡ (kept_as kind item (constant_of around c kind found).0, (constant_of around c kind found).1)
unfolding stored
stored_is around c kind item found = by (same_type item kind)
  where
    by : (b : Bool) → (if b then constant_of around c kind found else (as_word (constant_of around c kind found).0, (constant_of around c kind found).1))
        ≡ ((if b then (constant_of around c kind found).0 else as_word (constant_of around c kind found).0), (constant_of around c kind found).1)
    by true = refl
    by false = refl

-- what is at a place of a list of images
mapped_at : {A B : Type 0} (f : A → B) (xs : List A) (j : ℕ) (y : B) → slice_get (map f xs) j ≡ Some y → (x : A) × (slice_get xs j ≡ Some x) × (f x ≡ y)
mapped_at f [] j y h = absurd (no_some h)
mapped_at f (x ∷ xs) zero y h = (x, refl, same_some h)
mapped_at f (x ∷ xs) (suc j) y h = mapped_at f xs j y h

each_at : {layout : Layout} {known : Known} {g : Ghost} {seen : Option Element} {xs : List Value} {vs : List Meant} (j : ℕ) (x : Value) → EachHolds layout known g seen xs vs → slice_get xs j ≡ Some x → (v : Meant) × (slice_get vs j ≡ Some v) × Holds layout known g seen x v
each_at j x Empty h = absurd (no_some h)
each_at {layout = layout} {known = known} {g = g} {seen = seen} zero x (More {v = v} held each) h = (v, refl, subst (λ y. Holds layout known g seen y v) (same_some h) held)
each_at (suc j) x (More held each) h = each_at j x each h

each_snoc : {layout : Layout} {known : Known} {g : Ghost} {seen : Option Element} {xs : List Value} {vs : List Meant} {x : Value} {v : Meant} → EachHolds layout known g seen xs vs → Holds layout known g seen x v → EachHolds layout known g seen (xs ++ x ∷ []) (vs ++ v ∷ [])
each_snoc Empty held = More held Empty
each_snoc (More first each) held = More first (each_snoc each held)

module _ (p : LlProgram) (around : Around) (known : Known) (sites : List Site) (same : List ℕ) (has : HasLayout p around.layout) (m : Mapping)
    (key_typed : m.key ≡ type_in around.layout (known.keys m.dict)) (value_typed_as : m.value ≡ type_in around.layout (known.items m.dict))
    (base : Found) (ghosts : (ys : List CStatic) → Begins base.statics ys → (g : Ghost) × Texts p around.layout g ys) where
  abbrev layout : Layout
  layout = around.layout

  abbrev meaning : Const → Meant
  meaning c = meant_of known.program.sites c

  abbrev keys_of : List (Const × Const) → List Meant
  keys_of pairs = keys_meant p around known sites same has pairs

  abbrev values_of : List (Const × Const) → List Meant
  values_of pairs = values_meant p around known sites same has pairs

  -- an entry for each pair so far
  pub record EntriesMade (pairs : List (Const × Const)) (made : List Entry × Found) : Type 0 where
    pub keys : List CConst
    pub values : List CConst
    pub keys_are : keys_in made.0 ≡ map (kept_as m.key (stored_key m)) keys
    pub values_are : values_in made.0 ≡ map (kept_as m.value (stored_value m)) values
    pub hashes_are : hashes_in made.0 ≡ map (hash layout m.key) (keys_of pairs)
    pub begins : Begins base.statics made.1.statics
    pub kept : made.1.prebuilt ≡ base.prebuilt
    pub each_key : (g : Ghost) → Texts p layout g made.1.statics → EachHolds layout known g (known.keys m.dict) (map constant keys) (keys_of pairs)
    pub each_value : StandSo p around known sites same has made.1.statics base.prebuilt (λ g. EachHolds layout known g (known.items m.dict) (map constant values) (values_of pairs))

  pub nothing_made : EntriesMade [] ([], base)
  nothing_made = record { keys = []; values = []; keys_are = refl; values_are = refl; hashes_are = refl; begins = itself base.statics; kept = refl; each_key = λ g texts. Empty; each_value = λ g texts homes. Empty }

  module _ (before : List (Const × Const)) (made : List Entry × Found) (old : EntriesMade before made) (q : Const × Const)
      (hashed : MayBeKeys around.layout (known.keys m.dict)) (is_key : IsValue around known (known.keys m.dict) q.0) (is_value : AreMade around known sites same base.prebuilt (known.items m.dict) q.1) where
    abbrev one : CConst × Found
    one = constant_of around q.0 m.key made.1

    abbrev two : CConst × Found
    two = constant_of around q.1 m.value one.1

    abbrev new : Entry
    new = record { key = kept_as m.key (stored_key m) one.0; value = kept_as m.value (stored_value m) two.0; hash = hash_of layout q.0 m.key }

    entry_is : entry_of around m q made.1 ≡ (new, two.1)
    unfolding entry_of
    entry_is =
        ap (λ (key : CConst × Found). (record { key = key.0; value = (stored around q.1 m.value (stored_value m) key.1).0; hash = hash_of layout q.0 m.key }, (stored around q.1 m.value (stored_value m) key.1).1)) (stored_is around q.0 m.key (stored_key m) made.1)
        ∙ ap (λ (value : CConst × Found). (record { key = kept_as m.key (stored_key m) one.0; value = value.0; hash = hash_of layout q.0 m.key }, value.1)) (stored_is around q.1 m.value (stored_value m) one.1)

    one_begins_so : Begins made.1.statics one.1.statics
    one_begins_so = one_begins p around known sites same has q.0 m.key made.1

    two_begins_so : Begins one.1.statics two.1.statics
    two_begins_so = one_begins p around known sites same has q.1 m.value one.1

    key_held : (g : Ghost) → Texts p layout g one.1.statics → Holds layout known g (known.keys m.dict) (constant one.0) (meaning q.0)
    key_held g =
        let plain : AreMade around known sites same [] (known.keys m.dict) q.0 = Nowhere is_key in
        let typed : m.key ≡ type_seen layout (known.keys m.dict) = key_typed ∙ placed_type p around known sites same has plain in
        subst (λ made. Texts p layout g made.1.statics → Holds layout known g (known.keys m.dict) (constant made.0) (meaning q.0)) (ap (λ t. constant_of around q.0 t made.1) (sym typed)) (value_held p around known sites same has made.1 g is_key)

    value_held_so : StandSo p around known sites same has two.1.statics base.prebuilt (λ g. Holds layout known g (known.items m.dict) (constant two.0) (meaning q.1))
    value_held_so g texts homes =
        let typed : m.value ≡ type_seen layout (known.items m.dict) = value_typed_as ∙ placed_type p around known sites same has is_value in
        let kept_so : one.1.prebuilt ≡ base.prebuilt = constant_keeps around q.0 m.key made.1 ∙ old.kept in
        subst (λ made. Texts p layout g made.1.statics → Holds layout known g (known.items m.dict) (constant made.0) (meaning q.1)) (ap (λ t. constant_of around q.1 t one.1) (sym typed)) (constant_held p around known sites same has g one.1 is_value (same_kept base.prebuilt one.1.prebuilt kept_so) homes) texts

    begins_now : Begins base.statics two.1.statics
    begins_now = further base.statics made.1.statics two.1.statics old.begins (further made.1.statics one.1.statics two.1.statics one_begins_so two_begins_so)

    many : length made.0 ≡ length before
    many = sym (map_long (λ (e : Entry). e.hash) made.0) ∙ ap length old.hashes_are ∙ map_long (hash layout m.key) (keys_of before) ∙ map_long (λ (q : Const × Const). meaning q.0) before

    -- it is the key of no other
    module _ (rest : List Meant) (apart : AreApart is_equal (keys_of before ++ meaning q.0 ∷ rest)) where
      other_key : (j : ℕ) (e : Entry) → slice_get made.0 j ≡ Some e → e.key ≡ new.key → ⊥
      other_key j e h k =
          let g = ghosts two.1.statics begins_now in
          let texts_one = texts_before p layout g.0 one.1.statics two.1.statics two_begins_so g.1 in
          let each = old.each_key g.0 (texts_before p layout g.0 made.1.statics one.1.statics one_begins_so texts_one) in
          let at = mapped_at (kept_as m.key (stored_key m)) old.keys j e.key (ap (λ xs. slice_get xs j) (sym old.keys_are) ∙ get_map (λ (e : Entry). e.key) made.0 j e h) in
          let held = each_at j (constant at.0) each (get_map constant old.keys j at.0 at.1) in
          let alike : as_item m.key (stored_key m) (constant at.0) ≡ as_item m.key (stored_key m) (constant one.0) = sym (kept_is m.key (stored_key m) at.0) ∙ ap constant (at.2 ∙ k) ∙ kept_is m.key (stored_key m) one.0 in
          let plain : AreMade around known sites same [] (known.keys m.dict) q.0 = Nowhere is_key in
          let typed : m.key ≡ type_seen layout (known.keys m.dict) = key_typed ∙ placed_type p around known sites same has plain in
          let equal_so = stored_equal layout known g.0 m.key (stored_key m) hashed typed refl held.2 (key_held g.0 texts_one) alike in
          let within : j < length made.0 = get_within made.0 j e h in
          let long : length (keys_of before) ≡ length before = map_long (λ (q : Const × Const). meaning q.0) before in
          let first : slice_get (keys_of before ++ meaning q.0 ∷ rest) j ≡ Some held.0 = get_first (keys_of before) (meaning q.0 ∷ rest) j (omega (arith, within, many, long)) ∙ held.1 in
          let last : slice_get (keys_of before ++ meaning q.0 ∷ rest) (length (keys_of before)) ≡ Some (meaning q.0) = get_behind (keys_of before) (meaning q.0 ∷ rest) (length (keys_of before)) 0 (omega arith) in
          let same_place : j ≡ length (keys_of before) = apart j (length (keys_of before)) held.0 (meaning q.0) first last equal_so in
          omega (arith, within, many, long, same_place)

      entries_are : with_entry (entry_of around m q made.1).0 made.0 ≡ made.0 ++ new ∷ []
      entries_are = ap (λ (e : Entry × Found). with_entry e.0 made.0) entry_is ∙ new_entry new made.0 (no_key 0 made.0 new.key other_key)

      pub one_more : EntriesMade (before ++ q ∷ []) (with_entry (entry_of around m q made.1).0 made.0, (entry_of around m q made.1).1)
      one_more = subst (EntriesMade (before ++ q ∷ [])) (ap (λ es. (es, two.1)) (sym entries_are) ∙ ap (λ f. (with_entry (entry_of around m q made.1).0 made.0, f)) (sym (ap (λ (e : Entry × Found). e.1) entry_is))) (record {
        keys = old.keys ++ one.0 ∷ [];
        values = old.values ++ two.0 ∷ [];
        keys_are = map-append (λ (e : Entry). e.key) made.0 (new ∷ []) ∙ ap (λ xs. xs ++ new.key ∷ []) old.keys_are ∙ sym (map-append (kept_as m.key (stored_key m)) old.keys (one.0 ∷ []));
        values_are = map-append (λ (e : Entry). e.value) made.0 (new ∷ []) ∙ ap (λ xs. xs ++ new.value ∷ []) old.values_are ∙ sym (map-append (kept_as m.value (stored_value m)) old.values (two.0 ∷ []));
        hashes_are = map-append (λ (e : Entry). e.hash) made.0 (new ∷ []) ∙ ap (λ xs. xs ++ new.hash ∷ []) old.hashes_are ∙ ap (λ z. map (hash layout m.key) (keys_of before) ++ z ∷ []) (constant_hashed layout known.program.sites q.0 m.key)
            ∙ sym (map-append (hash layout m.key) (keys_of before) (meaning q.0 ∷ [])) ∙ ap (map (hash layout m.key)) (sym (map-append (λ (q : Const × Const). meaning q.0) before (q ∷ [])));
        begins = begins_now;
        kept = constant_keeps around q.1 m.value one.1 ∙ constant_keeps around q.0 m.key made.1 ∙ old.kept;
        each_key = λ g texts.
            let texts_one = texts_before p layout g one.1.statics two.1.statics two_begins_so texts in
            subst (λ vs. EachHolds layout known g (known.keys m.dict) (map constant (old.keys ++ one.0 ∷ [])) vs) (sym (map-append (λ (q : Const × Const). meaning q.0) before (q ∷ [])))
            (subst (λ xs. EachHolds layout known g (known.keys m.dict) xs (keys_of before ++ meaning q.0 ∷ [])) (sym (map-append constant old.keys (one.0 ∷ [])))
            (each_snoc (old.each_key g (texts_before p layout g made.1.statics one.1.statics one_begins_so texts_one)) (key_held g texts_one)));
        each_value = λ g texts homes.
            let texts_one = texts_before p layout g one.1.statics two.1.statics two_begins_so texts in
            subst (λ vs. EachHolds layout known g (known.items m.dict) (map constant (old.values ++ two.0 ∷ [])) vs) (sym (map-append (λ (q : Const × Const). meaning q.1) before (q ∷ [])))
            (subst (λ xs. EachHolds layout known g (known.items m.dict) xs (values_of before ++ meaning q.1 ∷ [])) (sym (map-append constant old.values (two.0 ∷ [])))
            (each_snoc (old.each_value g (texts_before p layout g made.1.statics one.1.statics one_begins_so texts_one) homes) (value_held_so g texts homes)));
      })

  pub entries_made : (before pairs : List (Const × Const)) (made : List Entry × Found) → EntriesMade before made → AreKeys around known sites same (known.keys m.dict) pairs → AreItems around known sites same (known.items m.dict) pairs
      → all_ready base pairs ≡ true → AreApart is_equal (keys_of before ++ keys_of pairs) → EntriesMade (before ++ pairs) (entries_from around m pairs made)
  entries_made before [] made old keys items ready apart = subst (λ ps. EntriesMade ps made) (sym (append-nil before)) old
  entries_made before (q ∷ pairs) made old keys items ready apart =
      let both = both_true (is_ready base q.1) (all_ready base pairs) ready in
      let value : AreMade around known sites same base.prebuilt (known.items m.dict) q.1 = are_made around known sites same base items.0 both.0 in
      let next = one_more before made old q keys.0.0 keys.0.1 value (keys_of pairs) apart in
      let apart_next : AreApart is_equal (keys_of (before ++ q ∷ []) ++ keys_of pairs) =
      subst (λ vs. AreApart is_equal vs) (sym (append_assoc (keys_of before) (meaning q.0 ∷ []) (keys_of pairs)) ∙ ap (λ vs. vs ++ keys_of pairs) (sym (map-append (λ (q : Const × Const). meaning q.0) before (q ∷ [])))) apart in
      subst (λ ps. EntriesMade ps (entries_from around m (q ∷ pairs) made)) (append_assoc before (q ∷ []) pairs)
      (entries_made (before ++ q ∷ []) pairs (with_entry (entry_of around m q made.1).0 made.0, (entry_of around m q made.1).1) next keys.1 items.1 both.1 apart_next)
