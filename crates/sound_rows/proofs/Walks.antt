-- Walks, and what tests say of values.
use Rattle.std.proofs.Common.{◌≡◌, ◌≢◌, ℕ, Bool, true, false, List, [], ◌∷◌, length, Option, Some, None, refl, ap, sym, subst, ◌∙◌}
use Rattle.std.specs.Prelude.{ℤ, pos, negsuc, ◌&&◌, ◌+ℤ◌, not, nat_lt, int_lt, slice_get, if◌then◌else◌}
use Rattle.std.proofs.lemmas.Bool.{ltb-true}
use Rattle.rpy_tree.specs.Value.{Value, Word, Flag, Text, Nothing, Tuple, Fun, Ref, Listed, Mapped}
use Rattle.rpy_meaning.specs.declared.row.Covers.{Covers}
use Rattle.rpy_meaning.specs.declared.row.RowOp.TheVariants as op
use Rattle.rpy_meaning.specs.World.{World, Gives, bad, give, flag, new_object, if_some, on_list}
use Rattle.rpy_meaning.specs.Costs.{keys_cost}
use Rattle.rpy_meaning.specs.Compare.{object_truth}
use Rattle.rpy_meaning.specs.Sequences.{byte}
use Rattle.rpy_meaning.specs.Walks.{walk, walk_object, has_item, item, advance, is_before, next_number}
use Rattle.rpy_meaning.specs.Walks as walks
use Rattle.rpy_meaning.specs.Operations.{truth_in}
use Rattle.ann_lattice.specs.Shape.{One, Any, OrNone, Shape, NoneOnly, Truth, Num, Str, Lst, Inst}
use Rattle.ann_lattice.specs.Shape as shape
use Rattle.ann_lattice.specs.Kind.{is_int, is_positive, positive_if}
use Rattle.ann_lattice.specs.Row as row
use Rattle.ann_rules.specs.Asks.{to_items, held}
use Rattle.ann_rules.specs.Asks as asking
use Rattle.sound_values.specs.Values as values
use Rattle.sound_values.specs.Values.{ListOf, none, none_str, none_list, none_dict, none_inst, none_fun, text, list, dict, inst, fun, clash}
use Rattle.sound_values.specs.Heaps.{AllOf}
use Rattle.sound_values.proofs.Growing.{keeps_more, all_grow}
use Rattle.sound_values.proofs.Objects.{list_at, dict_at, instance_at}
use Rattle.sound_rows.specs.Told.{IsPlace, IsWalk}
use Rattle.sound_rows.specs.Sound.{Sound}
use Rattle.sound_rows.proofs.Tools.{Setting, Sounds, Has, Under, misfits, fits, give_of, truth_of, none_ok, paying_ok, at_object_ok, with_list_ok, new_object_ok, with_sort}
use Rattle.sound_rows.proofs.Operands.{and_left, and_right, word_of}
use Rattle.sound_rows.proofs.Words.{num_ok}
use Rattle.sound_rows.proofs.Texts.{str_ok, char_ok}
use Rattle.sound_rows.proofs.Items.{found, all_at, all_by, keys_are}
use Rattle.sound_rows.proofs.Containers.{Met, Items, Keys, items_same, keys_same, goes, AllUnder}

module _ (s : Setting) where
  pub walk_ok : (c : Covers) (site : ℕ) (x : Shape) (v : Value) → Has s x v → Under s (row.walk site x) → Met s (asking.walked s.p s.a site x) → Sounds s (walk c v)
  walk_ok c site _ _ none b m = none_ok s c
  walk_ok c site _ _ none_str b m = none_ok s c
  walk_ok c site _ _ (none_list k) b m = none_ok s c
  walk_ok c site _ _ (none_dict k) b m = none_ok s c
  walk_ok c site _ _ (text width bytes h) b m = give_of s (Str width) (Text bytes) b (text width bytes h)
  walk_ok c site _ _ (list k n r u h q) b m =
      let o = list_at s.p s.a s.q.sites s.sorts s.heap s.typed r u h in
      at_object_ok s r (Listed o.items) (walk_object r) o.there (give_of s (Lst k n) (Ref r) b (list k n r u h q))
  walk_ok c site _ _ (dict k n r u h q) b m =
      let o = dict_at s.p s.a s.q.sites s.sorts s.heap s.typed r u h in
      let keys = all_by s.p s.a s.sorts (Keys s u) (Items s site) (λ v i. goes s (Keys s k) (Items s site) v m.0.0 (subst (λ y. Has s y v) (keys_same s u k q) i)) (walks.keys_of o.pairs)
      (keys_are s.p s.a s.sorts (Keys s u) (Items s u) o.pairs o.are) in
      at_object_ok s r (Mapped o.pairs) (walk_object r) o.there
      (paying_ok s (keys_cost (length o.pairs)) (new_object (Listed (walks.keys_of o.pairs)))
      (new_object_ok s (ListOf site) (Listed (walks.keys_of o.pairs)) (Lst site n)
      (all_grow s.p s.a s.sorts (with_sort s (ListOf site)) (keeps_more s.sorts (ListOf site ∷ [])) (Items s site) (walks.keys_of o.pairs) keys) b (λ r e. list site n r site e refl)))
  walk_ok c site x v h b m = absurd (misfits s b)

  -- ---- whether an item is there

  has_none : (x y : Shape) (v : Value) (n : ℕ) → Has s x v → v ≢ Nothing → Under s (row.has_item None x y) → Sounds s (has_item None v (Word (pos n)))
  has_none _ y _ n none t b = absurd (t refl)
  has_none _ y _ n none_str t b = absurd (t refl)
  has_none _ y _ n (none_list k) t b = absurd (t refl)
  has_none _ y _ n (text width bytes h) t b = let g = fits s (is_int y) (Truth None) b in truth_of s (nat_lt n (length bytes)) g.1
  has_none _ y _ n (list k l r u h q) t b =
      let o = list_at s.p s.a s.q.sites s.sorts s.heap s.typed r u h in
      let g = fits s (is_int y) (Truth None) b in
      with_list_ok s r o.items (λ vs. flag (nat_lt n (length vs))) o.there (truth_of s (nat_lt n (length o.items)) g.1)
  has_none x y v n h t b = absurd (misfits s b)

  -- what a walk over a value has been told
  abbrev pub Walking : Option ℤ → Value → Value → Type 0
  Walking None v i = IsWalk v i
  Walking (Some step) v i = Unit {0}

  pub has_item_ok : (step : Option ℤ) (x y : Shape) (v u : Value) → Has s x v → Has s y u → Walking step v u → Under s (row.has_item step x y) → Sounds s (has_item step v u)
  has_item_ok None x y v u h j t b = subst (λ e. Sounds s (has_item None v e)) (sym t.place.is) (has_none x y v t.place.place h t.some b)
  has_item_ok (Some step) x y v u h j t b =
      let g = fits s (row.both_int x y) (Truth None) b in
      let k = word_of s x v h (and_left (is_int x) (is_int y) g.0) in
      let l = word_of s y u j (and_right (is_int x) (is_int y) g.0) in
      subst (λ e. Sounds s (has_item (Some step) e u)) (sym k.is)
      (subst (λ e. Sounds s (has_item (Some step) (Word k.number) e)) (sym l.is) (truth_of s (is_before step k.number l.number) g.1))

  -- ---- the item

  flag_true : (b : Bool) (w : World) → Gives (Flag b) w ≡ Gives (Flag true) w → b ≡ true
  flag_true true w e = refl
  flag_true false w e = cc

  text_item : (bytes : List ℕ) (u : Value) (w : World) → has_item None (Text bytes) u w ≡ Gives (Flag true) w → Under s (Str One) → Sounds s (item None (Text bytes) u)
  text_item bytes (Word (pos n)) w t b =
      let f = found bytes n (ltb-true n (length bytes) (flag_true (nat_lt n (length bytes)) w t)) in
      subst (λ o. Sounds s (if_some bad o (λ b. give (byte b)))) (sym f.there) (char_ok s f.item b)
  text_item bytes (Word (negsuc n)) w t b = cc
  text_item bytes (Flag c) w t b = cc
  text_item bytes (Text c) w t b = cc
  text_item bytes Nothing w t b = cc
  text_item bytes (Tuple c) w t b = cc
  text_item bytes (Fun c) w t b = cc
  text_item bytes (Ref c) w t b = cc

  list_item : (r : ℕ) (vs : List Value) (x : Shape) (u : Value) (w : World) → slice_get s.heap r ≡ Some (Listed vs) → AllOf s.p s.a s.sorts x vs → w.heap ≡ s.heap
      → has_item None (Ref r) u w ≡ Gives (Flag true) w → Under s x → Sounds s (item None (Ref r) u)
  list_item r vs x (Word (pos n)) w there h e t b =
      let same : slice_get w.heap r ≡ Some (Listed vs) = ap (λ heap. slice_get heap r) e ∙ there in
      let told : Gives (Flag (nat_lt n (length vs))) w ≡ Gives (Flag true) w = subst (λ o. on_list (λ vs. flag (nat_lt n (length vs))) o w ≡ Gives (Flag true) w) same t in
      let f = found vs n (ltb-true n (length vs) (flag_true (nat_lt n (length vs)) w told)) in
      with_list_ok s r vs (λ vs. if_some bad (slice_get vs n) give) there
      (subst (λ o. Sounds s (if_some bad o give)) (sym f.there) (give_of s x f.item b (all_at s.p s.a s.sorts x vs n f.item f.there h)))
  list_item r vs x (Word (negsuc n)) w there h e t b = cc
  list_item r vs x (Flag c) w there h e t b = cc
  list_item r vs x (Text c) w there h e t b = cc
  list_item r vs x Nothing w there h e t b = cc
  list_item r vs x (Tuple c) w there h e t b = cc
  list_item r vs x (Fun c) w there h e t b = cc
  list_item r vs x (Ref c) w there h e t b = cc

  item_none : (x : Shape) (v u : Value) (w : World) → w.heap ≡ s.heap → Has s x v → has_item None v u w ≡ Gives (Flag true) w → Under s (row.sequence_item x shape.Nothing)
      → AllUnder s (row.sequence_item x) (held s.p s.a x) → Sound s.p s.a s.q s.raises s.sorts s.z (item None v u w)
  item_none _ _ u w e none t b bs = cc
  item_none _ _ u w e none_str t b bs = cc
  item_none _ _ u w e (none_list k) t b bs = cc
  item_none _ _ u w e (text width bytes h) t b bs = text_item bytes u w t b w e
  item_none _ _ u w e (list k n r v h q) t b bs =
      let o = list_at s.p s.a s.q.sites s.sorts s.heap s.typed r v h in
      list_item r o.items (Items s k) u w o.there (subst (λ x. AllOf s.p s.a s.sorts x o.items) (items_same s v k q) o.are) e t bs.0 w e
  item_none x v u w e h t b bs = absurd (misfits s b)

  -- there is an item
  abbrev pub Going : Option ℤ → Value → Value → World → Type 0
  Going None v u w = has_item None v u w ≡ Gives (Flag true) w
  Going (Some step) v u w = Unit {0}

  pub item_ok : (step : Option ℤ) (x y : Shape) (v u : Value) (w : World) → w.heap ≡ s.heap → Has s x v → Has s y u → Going step v u w → Under s (row.item step x y shape.Nothing)
      → AllUnder s (row.item step x y) (asking.parts s.p s.a (op.Item step) (x ∷ y ∷ []))
      → Sound s.p s.a s.q s.raises s.sorts s.z (item step v u w)
  item_ok None x y v u w e h j t b bs = item_none x v u w e h t b bs
  item_ok (Some step) x y v u w e h j t b bs =
      let g = fits s (row.both_int x y) (positive_if (is_positive (if int_lt (pos 0) step then y else x))) b in
      let l = word_of s y u j (and_right (is_int x) (is_int y) g.0) in
      subst (λ n. Sounds s (give n)) (sym l.is) (num_ok s (not (is_positive (if int_lt (pos 0) step then y else x))) l.number g.1) w e

  -- ---- the next place

  abbrev pub Placed : Option ℤ → Value → Type 0
  Placed None u = IsPlace u
  Placed (Some step) u = Unit {0}

  pub advance_ok : (step : Option ℤ) (x y : Shape) (v u : Value) → Has s x v → Has s y u → Placed step u → Under s (row.advance step x y) → Sounds s (advance step v u)
  advance_ok None x y v u h j t b = subst (λ e. Sounds s (advance None v e)) (sym t.is) (num_ok s false (pos t.place +ℤ pos 1) b)
  advance_ok (Some step) x y v u h j t b =
      let g = fits s (row.both_int x y) (positive_if (int_lt (pos 0) step && is_positive y)) b in
      let k = word_of s x v h (and_left (is_int x) (is_int y) g.0) in
      let l = word_of s y u j (and_right (is_int x) (is_int y) g.0) in
      subst (λ e. Sounds s (advance (Some step) e u)) (sym k.is)
      (subst (λ e. Sounds s (advance (Some step) (Word k.number) e)) (sym l.is)
      (num_ok s (not (int_lt (pos 0) step && is_positive y)) (next_number step k.number l.number) g.1))

  -- ---- what a test says

  pub drop_none_ok : (x : Shape) (v : Value) → Has s x v → v ≢ Nothing → Under s (row.drop_none x) → Sounds s (give v)
  drop_none_ok _ _ none t b = absurd (t refl)
  drop_none_ok _ _ none_str t b = absurd (t refl)
  drop_none_ok _ _ (none_list k) t b = absurd (t refl)
  drop_none_ok _ _ (none_dict k) t b = absurd (t refl)
  drop_none_ok _ _ (none_inst k) t b = absurd (t refl)
  drop_none_ok _ _ (none_fun k) t b = absurd (t refl)
  drop_none_ok _ _ (text One bytes h) t b = give_of s (Str One) (Text bytes) b (text One bytes h)
  drop_none_ok _ _ (text Any bytes h) t b = str_ok s bytes b
  drop_none_ok _ _ (text OrNone bytes h) t b = str_ok s bytes b
  drop_none_ok _ _ (list k n r u h q) t b = give_of s (Lst k false) (Ref r) b (list k false r u h q)
  drop_none_ok _ _ (dict k n r u h q) t b = give_of s (shape.Dct k false) (Ref r) b (dict k false r u h q)
  drop_none_ok _ _ (inst k n r u h q) t b = give_of s (Inst k false) (Ref r) b (inst k false r u h q)
  drop_none_ok _ _ (fun k n f h) t b = give_of s (shape.Fun k false) (Fun f) b (fun k false f h)
  drop_none_ok _ _ (values.flag k n h) t b = give_of s _ _ b (values.flag k n h)
  drop_none_ok _ _ (values.word n z) t b = give_of s _ _ b (values.word n z)
  drop_none_ok _ _ (values.tuple xs vs h) t b = give_of s _ _ b (values.tuple xs vs h)
  drop_none_ok _ _ (clash l d v) t b = give_of s _ _ b (clash l d v)

  pub only_none_ok : (v : Value) → v ≡ Nothing → Under s NoneOnly → Sounds s (give v)
  only_none_ok v e b = subst (λ u. Sounds s (give u)) (sym e) (give_of s NoneOnly Nothing b none)

  is_false : Some true ≡ Some false → ⊥
  is_false e = cc

  pub false_none_ok : (x : Shape) (v : Value) (w : World) → w.heap ≡ s.heap → Has s x v → truth_in w v ≡ Some false → Under s (row.false_none x)
      → Sound s.p s.a s.q s.raises s.sorts s.z (give v w)
  false_none_ok _ _ w e (none_inst k) t b = give_of s NoneOnly Nothing b none w e
  false_none_ok _ _ w e (none_fun k) t b = give_of s NoneOnly Nothing b none w e
  false_none_ok _ _ w e (inst k n r u h q) t b =
      let o = instance_at s.p s.a s.q.sites s.sorts s.heap s.typed r u h in
      absurd (is_false (sym (ap object_truth (ap (λ heap. slice_get heap r) e ∙ o.there)) ∙ t))
  false_none_ok _ _ w e (fun k n f h) t b = absurd (is_false t)
  false_none_ok _ _ w e none t b = give_of s _ _ b none w e
  false_none_ok _ _ w e none_str t b = give_of s _ _ b none_str w e
  false_none_ok _ _ w e (none_list k) t b = give_of s _ _ b (none_list k) w e
  false_none_ok _ _ w e (none_dict k) t b = give_of s _ _ b (none_dict k) w e
  false_none_ok _ _ w e (text d bytes h) t b = give_of s _ _ b (text d bytes h) w e
  false_none_ok _ _ w e (list k n r u h q) t b = give_of s _ _ b (list k n r u h q) w e
  false_none_ok _ _ w e (dict k n r u h q) t b = give_of s _ _ b (dict k n r u h q) w e
  false_none_ok _ _ w e (values.flag k n h) t b = give_of s _ _ b (values.flag k n h) w e
  false_none_ok _ _ w e (values.word n z) t b = give_of s _ _ b (values.word n z) w e
  false_none_ok _ _ w e (values.tuple xs vs h) t b = give_of s _ _ b (values.tuple xs vs h) w e
  false_none_ok _ _ w e (clash l d v) t b = give_of s _ _ b (clash l d v) w e

  pub non_negative_ok : (x y : Shape) (v : Value) → Has s x v → Under s (row.non_negative x y) → Sounds s (give v)
  non_negative_ok x y v h b = by (is_positive y && is_int x) refl b
    where
      by : (i : Bool) → (is_positive y && is_int x) ≡ i → Under s (if i then Num false else x) → Sounds s (give v)
      by true i b = let k = word_of s x v h (and_right (is_positive y) (is_int x) i) in subst (λ u. Sounds s (give u)) (sym k.is) (num_ok s false k.number b)
      by false i b = give_of s x v b h
