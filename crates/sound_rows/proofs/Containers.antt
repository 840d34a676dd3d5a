-- Lists, dicts, tuples and strings by their items; sums, products and slices.
use Rattle.std.proofs.Common.{◌≡◌, ℕ, ◌-◌, Bool, true, false, List, [], ◌∷◌, ◌++◌, length, Option, Some, None, refl, ap, sym, subst, arith}
use Rattle.std.specs.Prelude.{ℤ, pos, negsuc, ◌&&◌, nat_abs, slice_set, remove, if◌then◌else◌}
use Rattle.rpy_tree.specs.declared.program.ClassInfo.{ClassInfo}
use Rattle.rpy_tree.specs.Value.{Value, Word, Flag, Text, Nothing, Tuple, Fun, Ref, Values, Listed, Mapped}
use Rattle.rpy_meaning.specs.declared.row.Covers.{Covers}
use Rattle.rpy_meaning.specs.World.{Op, bad, give, set_object, new_list, no_key, negative_slice, index_error, if_some, with_list}
use Rattle.rpy_meaning.specs.Costs.{key_cost}
use Rattle.rpy_meaning.specs.Sequences.{place, item_at, items_of as tuple_items, value_at, has_key, with_key, without_key, byte, index_object, index, store_object, store_index, delete_object, delete_index, is_bound, Cut, before, after, between, but_last, part, part_between, plus}
use Rattle.ann_element.specs.Sites.{Same}
use Rattle.ann_lattice.specs.Shape.{One, Any, OrNone, Shape, NoneOnly, Truth, Num, Str, Tup, Lst, Dct, Shapes, shapes_of, items, end}
use Rattle.ann_lattice.specs.Shape as shape
use Rattle.ann_lattice.specs.Kind.{given, is_int}
use Rattle.ann_lattice.specs.Order as order
use Rattle.ann_lattice.specs.Order.{Below, is_key}
use Rattle.ann_lattice.specs.Assign.{Assignment, at, Need}
use Rattle.ann_lattice.specs.Row as row
use Rattle.ann_rules.specs.Asks.{items_of, keys_of, to_items, to_keys, flow, look_up_key, hold, held}
use Rattle.sound_values.specs.Values as values
use Rattle.sound_values.specs.Values.{Sort, ListOf, DictOf, none, none_str, none_list, none_dict, none_inst, none_fun, flag, text, list, dict, inst, fun, clash, Each, no_more, and_more}
use Rattle.sound_values.specs.Heaps.{AllOf}
use Rattle.sound_values.proofs.Larger.{larger}
use Rattle.sound_values.proofs.Objects.{list_at, dict_at}
use Rattle.sound_rows.specs.Sound.{AllMet}
use Rattle.sound_rows.proofs.Tools.{Setting, Sounds, Has, Under, misfits, fits, give_of, throw_ok, index_ok, none_ok, if_ok, paying_ok, at_object_ok, with_list_ok, set_object_ok, raise_to, new_list_ok}
use Rattle.sound_rows.proofs.Words.{on_word_ok}
use Rattle.sound_rows.proofs.Tests.{unclash}
use Rattle.sound_rows.proofs.Texts.{new_text_ok, char_ok}
use Rattle.sound_rows.proofs.Items.{there_at, all_append, all_take, all_drop, all_set, all_remove, all_item, all_by, value_of, pairs_with, pairs_without, nth_of}

-- ---- needs that are met

pub met_append : (k : List ClassInfo) (a : Assignment) (ms ns : List Need) → AllMet k a (ms ++ ns) → AllMet k a ms × AllMet k a ns
met_append k a [] ns h = (tt, h)
met_append k a (m ∷ ms) ns h = let r = met_append k a ms ns h.1 in ((h.0, r.0), r.1)

pub if_some_ok : (s : Setting) {A : Type 0} (missing : Op) (o : Option A) (f : A → Op) → Sounds s missing → ((x : A) → o ≡ Some x → Sounds s (f x)) → Sounds s (if_some missing o f)
if_some_ok s missing None f h go = h
if_some_ok s missing (Some x) f h go = go x refl

module _ (s : Setting) where
  abbrev pub Met : List Need → Type 0
  Met ns = AllMet s.p.tables.classes s.a ns

  abbrev pub Items : ℕ → Shape
  Items site = items_of s.p s.a site

  abbrev pub Keys : ℕ → Shape
  Keys site = keys_of s.p s.a site

  pub items_same : (u site : ℕ) → Same s.a.same u site → Items u ≡ Items site
  items_same u site e = ap (λ l. at s.a (s.p.places.item l)) e

  pub keys_same : (u site : ℕ) → Same s.a.same u site → Keys u ≡ Keys site
  keys_same u site e = ap (λ l. at s.a (s.p.places.key l)) e

  -- a value goes to where its element is asked to go
  pub goes : (x y : Shape) (v : Value) → Below s.p.tables.classes s.a.same x y → Has s x v → Has s y v
  goes x y v b h = larger s.p.tables.classes s.sees.tree.tree s.a.same s.sorts x y v b h

  pub item_goes : (u site : ℕ) (x : Shape) (v : Value) → Same s.a.same u site → Met (to_items s.p s.a site x) → Has s x v → Has s (Items u) v
  item_goes u site x v e m h = subst (λ y. Has s y v) (sym (items_same u site e)) (goes x (Items site) v m.0.0 h)

  -- what can be no key is asked to be in conflict, which has each value
  key_by : (b : Bool) (x y : Shape) (v : Value) → Below s.p.tables.classes s.a.same (given b x) y → Has s x v → Has s y v
  key_by true x y v b h = goes x y v b h
  key_by false x _ v (order.clash m o p i j) h = clash o p v

  pub key_goes : (u site : ℕ) (x : Shape) (v : Value) → Same s.a.same u site → Met (to_keys s.p s.a site x) → Has s x v → Has s (Keys u) v
  key_goes u site x v e m h = subst (λ y. Has s y v) (sym (keys_same u site e)) (key_by (is_key x) x (Keys site) v m.0.0 h)

  -- what stands in a list of u, which is of t, flows to another site
  pub all_flow : (u t site : ℕ) (n : Bool) (vs : List Value) → Same s.a.same u t → Met (flow s.p s.a (Lst t n) site) → AllOf s.p s.a s.sorts (Items u) vs → AllOf s.p s.a s.sorts (Items site) vs
  all_flow u t site n vs e m h =
      all_by s.p s.a s.sorts (Items u) (Items site) (λ v i. goes (Items t) (Items site) v m.0.0 (subst (λ y. Has s y v) (items_same u t e) i)) vs h

  -- ---- further parts that a row speaks of

  abbrev pub AllUnder : (Shape → Shape) → List Shape → Type 0
  AllUnder f [] = Unit {0}
  AllUnder f (q ∷ qs) = Under s (f q) × AllUnder f qs

  -- ---- indexes

  -- a literal index is its value
  abbrev pub IsLiteral : Option ℤ → Value → Type 0
  IsLiteral None i = Unit {0}
  IsLiteral (Some z) i = i ≡ Word z

  literal_ok : (c : Covers) (literal : Option ℤ) (xs : Shapes) (vs : Values) (i : Value) → Each s.p.tables.classes s.a.same s.sorts xs vs → IsLiteral literal i → Under s (row.at_literal literal xs)
      → Sounds s (index c (Tuple vs) i)
  literal_ok c None xs vs i h e b = absurd (misfits s b)
  literal_ok c (Some (negsuc n)) xs vs i h e b = absurd (misfits s b)
  literal_ok c (Some (pos n)) xs vs i h e b =
      let f = nth_of s.p s.a s.sorts xs vs n h (unclash s (row.nth xs n) b) in
      subst (λ j. Sounds s (index c (Tuple vs) j)) (sym e)
      (subst (λ o. Sounds s (if_some bad o give)) (sym (there_at (tuple_items vs) n f.item f.there)) (give_of s (row.nth xs n) f.item b f.is))

  pub index_is_ok : (c : Covers) (literal : Option ℤ) (x y : Shape) (v i : Value) → Has s x v → Has s y i → IsLiteral literal i → Under s (row.index literal x y shape.Nothing)
      → AllUnder (row.index literal x y) (held s.p s.a x) → Sounds s (index c v i)
  index_is_ok c l _ y _ i none j e b bs = none_ok s c
  index_is_ok c l _ y _ i none_str j e b bs = none_ok s c
  index_is_ok c l _ y _ i (none_list t) j e b bs = none_ok s c
  index_is_ok c l _ y _ i (none_dict t) j e b bs = none_ok s c
  index_is_ok c l _ y _ i (text width bytes h) j e b bs =
      let g = fits s (is_int y) (Str One) b in
      on_word_ok s (λ z. if_some (index_error c) (item_at z bytes) (λ b. give (byte b))) y i j g.0
      (λ z. if_some_ok s (index_error c) (item_at z bytes) (λ b. give (byte b)) (index_ok s c) (λ n q. char_ok s n g.1))
  index_is_ok c l _ y _ i (values.tuple xs vs h) j e b bs = literal_ok c l xs vs i h e b
  index_is_ok c l _ y _ i (list t n r u h q) j e b bs =
      let o = list_at s.p s.a s.q.sites s.sorts s.heap s.typed r u h in
      let g = fits s (is_int y) (Items t) bs.0 in
      at_object_ok s r (Listed o.items) (index_object c i) o.there
      (on_word_ok s (λ z. if_some (index_error c) (item_at z o.items) give) y i j g.0
      (λ z. if_some_ok s (index_error c) (item_at z o.items) give (index_ok s c)
      (λ v m. give_of s (Items t) v g.1 (subst (λ w. Has s w v) (items_same u t q) (all_item s.p s.a s.sorts (Items u) o.items z v m o.are)))))
  index_is_ok c l _ y _ i (dict t n r u h q) j e b bs =
      let o = dict_at s.p s.a s.q.sites s.sorts s.heap s.typed r u h in
      at_object_ok s r (Mapped o.pairs) (index_object c i) o.there
      (if_some_ok s no_key (value_at i o.pairs) give (throw_ok s 7 (omega arith))
      (λ v m. give_of s (Items t) v bs.0 (subst (λ w. Has s w v) (items_same u t q) (value_of s.p s.a s.sorts (Keys u) (Items u) i o.pairs v m o.are))))
  index_is_ok c l x y v i h j e b bs = absurd (misfits s b)

  pub store_index_ok : (c : Covers) (x y z : Shape) (v i w : Value) → Has s x v → Has s y i → Has s z w → Under s (row.store_index x y z) → Met (look_up_key s.p s.a x y ++ hold s.p s.a x z)
      → Sounds s (store_index c v i w)
  store_index_ok c _ y z _ i w none j l b m = none_ok s c
  store_index_ok c _ y z _ i w (none_list t) j l b m = none_ok s c
  store_index_ok c _ y z _ i w (none_dict t) j l b m = none_ok s c
  store_index_ok c _ y z _ i w (list t n r u h q) j l b m =
      let o = list_at s.p s.a s.q.sites s.sorts s.heap s.typed r u h in
      let g = fits s (is_int y) z b in
      at_object_ok s r (Listed o.items) (store_object c r i w) o.there
      (on_word_ok s (λ z. if_some (index_error c) (place z (length o.items)) (λ k. set_object r (Listed (slice_set o.items k w)) w)) y i j g.0
      (λ n. if_some_ok s (index_error c) (place n (length o.items)) (λ k. set_object r (Listed (slice_set o.items k w)) w) (index_ok s c)
      (λ k e. set_object_ok s r (ListOf u) (Listed (slice_set o.items k w)) w h (all_set s.p s.a s.sorts (Items u) o.items k w o.are (item_goes u t z w q m l)) (raise_to s z w g.1 l))))
  store_index_ok c _ y z _ i w (dict t n r u h q) j l b m =
      let o = dict_at s.p s.a s.q.sites s.sorts s.heap s.typed r u h in
      let ms = met_append s.p.tables.classes s.a (to_keys s.p s.a t y) (to_items s.p s.a t z) m in
      at_object_ok s r (Mapped o.pairs) (store_object c r i w) o.there
      (paying_ok s (if has_key i o.pairs then 0 else key_cost) (set_object r (Mapped (with_key i w o.pairs)) w)
      (set_object_ok s r (DictOf u) (Mapped (with_key i w o.pairs)) w h
      (pairs_with s.p s.a s.sorts (Keys u) (Items u) i w o.pairs (key_goes u t y i q ms.0 j) (item_goes u t z w q ms.1 l) o.are) (raise_to s z w b l)))
  store_index_ok c x y z v i w h j l b m = absurd (misfits s b)

  pub delete_index_ok : (c : Covers) (x y : Shape) (v i : Value) → Has s x v → Has s y i → Under s (row.delete_index x y) → Sounds s (delete_index c v i)
  delete_index_ok c _ y _ i none j b = none_ok s c
  delete_index_ok c _ y _ i (none_list t) j b = none_ok s c
  delete_index_ok c _ y _ i (none_dict t) j b = none_ok s c
  delete_index_ok c _ y _ i (list t n r u h q) j b =
      let o = list_at s.p s.a s.q.sites s.sorts s.heap s.typed r u h in
      let g = fits s (is_int y) NoneOnly b in
      at_object_ok s r (Listed o.items) (delete_object c r i) o.there
      (on_word_ok s (λ z. if_some (index_error c) (place z (length o.items)) (λ k. set_object r (Listed (remove o.items k)) Nothing)) y i j g.0
      (λ n. if_some_ok s (index_error c) (place n (length o.items)) (λ k. set_object r (Listed (remove o.items k)) Nothing) (index_ok s c)
      (λ k e. set_object_ok s r (ListOf u) (Listed (remove o.items k)) Nothing h (all_remove s.p s.a s.sorts (Items u) o.items k o.are) (raise_to s NoneOnly Nothing g.1 none))))
  delete_index_ok c _ y _ i (dict t n r u h q) j b =
      let o = dict_at s.p s.a s.q.sites s.sorts s.heap s.typed r u h in
      at_object_ok s r (Mapped o.pairs) (delete_object c r i) o.there
      (if_ok s (has_key i o.pairs) (set_object r (Mapped (without_key i o.pairs)) Nothing) no_key
      (set_object_ok s r (DictOf u) (Mapped (without_key i o.pairs)) Nothing h (pairs_without s.p s.a s.sorts (Keys u) (Items u) i o.pairs o.are) (raise_to s NoneOnly Nothing b none))
      (throw_ok s 7 (omega arith)))
  delete_index_ok c x y v i h j b = absurd (misfits s b)

  -- ---- slices

  -- what holds of each item holds of those in a slice
  abbrev pub KeepsItems : Cut → Type 0
  KeepsItems cut = (x : Shape) (vs : List Value) → AllOf s.p s.a s.sorts x vs → AllOf s.p s.a s.sorts x (cut Value vs)

  pub part_ok : (c : Covers) (site : ℕ) (cut : Cut) → KeepsItems cut → (x : Shape) (v : Value) → Has s x v → Under s (row.slice site x) → Met (flow s.p s.a x site) → Sounds s (part c cut v)
  part_ok c site cut k _ _ none b m = none_ok s c
  part_ok c site cut k _ _ none_str b m = none_ok s c
  part_ok c site cut k _ _ (none_list t) b m = none_ok s c
  part_ok c site cut k _ _ (text width bytes h) b m = new_text_ok s (cut ℕ bytes) b
  part_ok c site cut k _ _ (list t n r u h q) b m =
      let o = list_at s.p s.a s.q.sites s.sorts s.heap s.typed r u h in
      with_list_ok s r o.items (λ vs. new_list (cut Value vs)) o.there
      (new_list_ok s site (cut Value o.items) (k (Items site) o.items (all_flow u t site n o.items q m o.are)) b)
  part_ok c site cut k x v h b m = absurd (misfits s b)

  before_keeps : (high : Option ℤ) → KeepsItems (before high)
  before_keeps None x vs h = h
  before_keeps (Some z) x vs h = all_take s.p s.a s.sorts x (nat_abs z) vs h

  after_keeps : (low : Option ℤ) → KeepsItems (after low)
  after_keeps None x vs h = h
  after_keeps (Some z) x vs h = all_drop s.p s.a s.sorts x (nat_abs z) vs h

  between_keeps : (low high : Option ℤ) → KeepsItems (between low high)
  between_keeps low high x vs h = after_keeps low x (before high Value vs) (before_keeps high x vs h)

  pub but_last_keeps : KeepsItems but_last
  but_last_keeps x vs h = all_take s.p s.a s.sorts x (length vs - 1) vs h

  part_between_by : (c : Covers) (low high : Option ℤ) (v : Value) → Sounds s (part c (between low high) v) → Sounds s (part_between c low high v)
  part_between_by c low high Nothing h = h
  part_between_by c low high (Word z) h = if_ok s (is_bound low && is_bound high) (part c (between low high) (Word z)) negative_slice h (λ w e. tt)
  part_between_by c low high (Flag z) h = if_ok s (is_bound low && is_bound high) (part c (between low high) (Flag z)) negative_slice h (λ w e. tt)
  part_between_by c low high (Text z) h = if_ok s (is_bound low && is_bound high) (part c (between low high) (Text z)) negative_slice h (λ w e. tt)
  part_between_by c low high (Tuple z) h = if_ok s (is_bound low && is_bound high) (part c (between low high) (Tuple z)) negative_slice h (λ w e. tt)
  part_between_by c low high (Fun z) h = if_ok s (is_bound low && is_bound high) (part c (between low high) (Fun z)) negative_slice h (λ w e. tt)
  part_between_by c low high (Ref z) h = if_ok s (is_bound low && is_bound high) (part c (between low high) (Ref z)) negative_slice h (λ w e. tt)

  pub part_between_ok : (c : Covers) (site : ℕ) (low high : Option ℤ) (x : Shape) (v : Value) → Has s x v → Under s (row.slice site x) → Met (flow s.p s.a x site) → Sounds s (part_between c low high v)
  part_between_ok c site low high x v h b m = part_between_by c low high v (part_ok c site (between low high) (between_keeps low high) x v h b m)

  -- ---- sums and products

  pub plus_ok : (c : Covers) (site : ℕ) (x y : Shape) (v u : Value) → Has s x v → Has s y u → Under s (row.add (Some site) x y) → Met (flow s.p s.a x site ++ flow s.p s.a y site) → Sounds s (plus c v u)
  plus_ok c site _ _ _ _ none j b m = none_ok s c
  plus_ok c site _ _ _ _ none_str j b m = none_ok s c
  plus_ok c site _ _ _ _ (none_list t) j b m = none_ok s c
  plus_ok c site _ _ _ _ (text width bytes h) none b m = none_ok s c
  plus_ok c site _ _ _ _ (text width bytes h) none_str b m = none_ok s c
  plus_ok c site _ _ _ _ (text width bytes h) (text w more j) b m = new_text_ok s (bytes ++ more) b
  plus_ok c site _ _ _ _ (list t n r u h q) none b m = none_ok s c
  plus_ok c site _ _ _ _ (list t n r u h q) (none_list v) b m = none_ok s c
  plus_ok c site _ _ _ _ (list t n r u h q) (list t' n' r' u' h' q') b m =
      let o = list_at s.p s.a s.q.sites s.sorts s.heap s.typed r u h in
      let o' = list_at s.p s.a s.q.sites s.sorts s.heap s.typed r' u' h' in
      let ms = met_append s.p.tables.classes s.a (flow s.p s.a (Lst t n) site) (flow s.p s.a (Lst t' n') site) m in
      with_list_ok s r o.items (λ vs. with_list r' (λ us. new_list (vs ++ us))) o.there
      (with_list_ok s r' o'.items (λ us. new_list (o.items ++ us)) o'.there
      (new_list_ok s site (o.items ++ o'.items)
      (all_append s.p s.a s.sorts (Items site) o.items o'.items (all_flow u t site n o.items q ms.0 o.are) (all_flow u' t' site n' o'.items q' ms.1 o'.are)) b))
  plus_ok c site x y v u h j b m = absurd (misfits s b)
