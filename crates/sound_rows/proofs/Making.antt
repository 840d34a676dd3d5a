-- Sums, products and `+=`; tuples; lists and dicts that are made.
use Rattle.std.proofs.Common.{◌≡◌, ◌≢◌, ℕ, suc, ◌*◌, Bool, true, false, List, [], ◌∷◌, ◌++◌, length, Option, Some, None, refl, ap, sym, subst, ◌∙◌}
use Rattle.std.specs.Prelude.{ℤ, ◌==◌, nat_le, if◌then◌else◌, slice_get}
use Rattle.std.specs.List.{repeat}
use Rattle.rpy_base.specs.Word.{wrap}
use Rattle.rpy_tree.specs.declared.syntax.BinOp.{BinOp}
use Rattle.rpy_tree.specs.declared.syntax.BinOp.TheVariants as bin
use Rattle.rpy_tree.specs.Value.{Value, Word, Text, Nothing, Ref, Values, Listed, Mapped}
use Rattle.rpy_meaning.specs.declared.row.Covers.{Covers}
use Rattle.rpy_meaning.specs.World.{Op, bad, give, paying, set_object, new_object, new_list, if_some, with_list}
use Rattle.rpy_meaning.specs.Costs.{text_cost, list_cost, extend_cost, tuple_cost, dict_cost, comprehension_cost, item_cost}
use Rattle.rpy_meaning.specs.Arithmetic.{word, arithmetic}
use Rattle.rpy_meaning.specs.Sequences.{items_of as tuple_items, parts_of, tuple, new_tuple, count, plus, times, binary, extend, add_to}
use Rattle.rpy_meaning.specs.Operations.{unpack, add_item}
use Rattle.ann_element.specs.Sites.{Same}
use Rattle.ann_lattice.specs.Shape.{Shape, NoneOnly, Tup, Lst, Dct, Shapes, shapes_of, items}
use Rattle.ann_lattice.specs.Join.{depth}
use Rattle.ann_lattice.specs.Kind.{is_int}
use Rattle.ann_lattice.specs.Row as row
use Rattle.ann_rules.specs.Asks.{to_items, flow, hold, from_each, sum}
use Rattle.ann_rules.specs.Asks as asking
use Rattle.sound_values.specs.Values as values
use Rattle.sound_values.specs.Values.{ListOf, DictOf, none, none_str, none_list, none_dict, none_inst, none_fun, flag, text, list, dict, inst, fun, clash, Each, no_more, and_more}
use Rattle.sound_values.specs.Heaps.{AllOf}
use Rattle.sound_values.proofs.Objects.{list_at}
use Rattle.sound_rows.proofs.Tools.{no, Setting, Sounds, Has, Have, Under, misfits, fits, give_of, none_ok, paying_ok, with_list_ok, set_object_ok, new_object_ok, raise_to, new_list_ok, listed_ok}
use Rattle.sound_rows.proofs.Operands.{and_left, and_right, word_of}
use Rattle.sound_rows.proofs.Words.{num_ok, arithmetic_ok, a_number}
use Rattle.sound_rows.proofs.Tests.{unclash}
use Rattle.sound_rows.proofs.Texts.{str_ok, new_text_ok}
use Rattle.sound_rows.proofs.Items.{all_append, all_repeat, nth_of}
use Rattle.sound_rows.proofs.Containers.{Met, Items, items_same, item_goes, goes, all_flow, plus_ok}

if_true : (s : Setting) (b : Bool) (f g : Op) → b ≡ true → Sounds s f → Sounds s (if b then f else g)
if_true s true f g e h = h
if_true s false f g e h = absurd (no e)

module _ (s : Setting) where
  -- ---- products

  times_list : (c : Covers) (r u : ℕ) (n : ℤ) (site : ℕ) → slice_get s.sorts r ≡ Some (ListOf u)
      → ((vs : List Value) → AllOf s.p s.a s.sorts (Items s u) vs → AllOf s.p s.a s.sorts (Items s site) vs) → Under s (Lst site false) → Sounds s (times c (Ref r) (Word n))
  times_list c r u n site h into b =
      let o = list_at s.p s.a s.q.sites s.sorts s.heap s.typed r u h in
      with_list_ok s r o.items (λ vs. paying (list_cost (length vs * count n)) (new_object (Listed (repeat (count n) vs)))) o.there
      (paying_ok s (list_cost (length o.items * count n)) (new_object (Listed (repeat (count n) o.items)))
      (listed_ok s site (repeat (count n) o.items) (all_repeat s.p s.a s.sorts (Items s site) (count n) o.items (into o.items o.are)) b))

  same_site : (u t : ℕ) → Same s.a.same u t → (vs : List Value) → AllOf s.p s.a s.sorts (Items s u) vs → AllOf s.p s.a s.sorts (Items s t) vs
  same_site u t e vs h = subst (λ x. AllOf s.p s.a s.sorts x vs) (items_same s u t e) h

  times_word : (c : Covers) (site : Option ℕ) (x : Shape) (v : Value) (n : ℤ) → Has s x v → Under s (row.multiply site x) → Met s (sum s.p s.a bin.Mul site x x) → Sounds s (times c v (Word n))
  times_word c site _ _ n none b m = none_ok s c
  times_word c site _ _ n none_str b m = none_ok s c
  times_word c site _ _ n (none_list t) b m = none_ok s c
  times_word c site _ _ n (text width bytes h) b m = paying_ok s (text_cost (length bytes * count n)) (give (Text (repeat (count n) bytes))) (str_ok s (repeat (count n) bytes) b)
  times_word c (Some site) _ _ n (list t l r u h q) b m = times_list c r u n site h (λ vs i. all_flow s u t site l vs q m i) b
  times_word c None _ _ n (list t l r u h q) b m = times_list c r u n t h (same_site u t q) b
  times_word c site x v n h b m = absurd (misfits s b)

  binary_by : (c : Covers) (o : BinOp) (x y : ℤ) → Sounds s (arithmetic c word o x y) → Sounds s (binary c o (Word x) (Word y))
  binary_by c bin.Add x y h = h
  binary_by c bin.Sub x y h = h
  binary_by c bin.Mul x y h = h
  binary_by c bin.Div x y h = h
  binary_by c bin.FloorDiv x y h = h
  binary_by c bin.Mod x y h = h
  binary_by c bin.Shl x y h = h
  binary_by c bin.Shr x y h = h
  binary_by c bin.BitAnd x y h = h
  binary_by c bin.BitOr x y h = h
  binary_by c bin.BitXor x y h = h

  binary_words : (c : Covers) (o : BinOp) (x y : Shape) (v u : Value) → Has s x v → Has s y u → row.both_int x y ≡ true → Under s (row.number o x y) → Sounds s (binary c o v u)
  binary_words c o x y v u h j i b =
      let n = a_number s o x y b in
      let k = word_of s x v h (and_left (is_int x) (is_int y) i) in
      let l = word_of s y u j (and_right (is_int x) (is_int y) i) in
      subst (λ e. Sounds s (binary c o e u)) (sym k.is)
      (subst (λ e. Sounds s (binary c o (Word k.number) e)) (sym l.is)
      (binary_by c o k.number l.number (arithmetic_ok s c word (λ z. num_ok s n.0 (wrap z) n.1) o k.number l.number)))

  -- the sum of two lists has a site
  abbrev pub HasSite : Option ℕ → Value → Type 0
  HasSite None (Ref r) = ⊥
  HasSite site v = Unit {0}

  plus_bare : (c : Covers) (x y : Shape) (v u : Value) → Has s x v → Has s y u → HasSite None v → Under s (row.add None x y) → Sounds s (plus c v u)
  plus_bare c _ _ _ _ none j t b = none_ok s c
  plus_bare c _ _ _ _ none_str j t b = none_ok s c
  plus_bare c _ _ _ _ (none_list k) j t b = none_ok s c
  plus_bare c _ _ _ _ (text width bytes h) none t b = none_ok s c
  plus_bare c _ _ _ _ (text width bytes h) none_str t b = none_ok s c
  plus_bare c _ _ _ _ (text width bytes h) (text w more j) t b = new_text_ok s (bytes ++ more) b
  plus_bare c _ _ _ _ (list k n r u h q) j t b = absurd t
  plus_bare c x y v u h j t b = absurd (misfits s b)

  other_ok : (c : Covers) (o : BinOp) (site : Option ℕ) (x y : Shape) (v u : Value) → Has s x v → Has s y u → (o ≡ bin.Add → HasSite site v) → Under s (row.binary_other o site x y)
      → Met s (sum s.p s.a o site x y) → Sounds s (binary c o v u)
  other_ok c bin.Add (Some site) x y v u h j t b m = plus_ok s c site x y v u h j b m
  other_ok c bin.Add None x y v u h j t b m = plus_bare c x y v u h j (t refl) b
  other_ok c bin.Mul (Some site) x y v u h j t b m =
      let g = fits s (is_int y) (row.multiply (Some site) x) b in
      let l = word_of s y u j g.0 in
      subst (λ e. Sounds s (times c v e)) (sym l.is) (times_word c (Some site) x v l.number h g.1 m)
  other_ok c bin.Mul None x y v u h j t b m =
      let g = fits s (is_int y) (row.multiply None x) b in
      let l = word_of s y u j g.0 in
      subst (λ e. Sounds s (times c v e)) (sym l.is) (times_word c None x v l.number h g.1 tt)
  other_ok c o site x y v u h j t b m = absurd (misfits s b)

  pub binary_ok : (c : Covers) (o : BinOp) (site : Option ℕ) (x y : Shape) (v u : Value) → Has s x v → Has s y u → (o ≡ bin.Add → HasSite site v) → Under s (row.binary o site x y)
      → Met s (sum s.p s.a o site x y) → Sounds s (binary c o v u)
  binary_ok c o site x y v u h j t b m = by (row.both_int x y) refl b
    where
      by : (i : Bool) → row.both_int x y ≡ i → Under s (if i then row.number o x y else row.binary_other o site x y) → Sounds s (binary c o v u)
      by true i b = binary_words c o x y v u h j i b
      by false i b = other_ok c o site x y v u h j t b m

  -- ---- `+=` and `extend`

  pub extend_ok : (r u t r' u' t' : ℕ) (n' : Bool) (v : Value) → slice_get s.sorts r ≡ Some (ListOf u) → Same s.a.same u t
      → slice_get s.sorts r' ≡ Some (ListOf u') → Same s.a.same u' t' → Met s (flow s.p s.a (Lst t' n') t) → Has s s.z v → Sounds s (extend r r' v)
  extend_ok r u t r' u' t' n' v h q h' q' m i =
      let o = list_at s.p s.a s.q.sites s.sorts s.heap s.typed r u h in
      let o' = list_at s.p s.a s.q.sites s.sorts s.heap s.typed r' u' h' in
      let more = subst (λ x. AllOf s.p s.a s.sorts x o'.items) (sym (items_same s u t q)) (all_flow s u' t' t n' o'.items q' m o'.are) in
      with_list_ok s r o.items (λ vs. with_list r' (λ us. paying (extend_cost (length us)) (set_object r (Listed (vs ++ us)) v))) o.there
      (with_list_ok s r' o'.items (λ us. paying (extend_cost (length us)) (set_object r (Listed (o.items ++ us)) v)) o'.there
      (paying_ok s (extend_cost (length o'.items)) (set_object r (Listed (o.items ++ o'.items)) v)
      (set_object_ok s r (ListOf u) (Listed (o.items ++ o'.items)) v h (all_append s.p s.a s.sorts (Items s u) o.items o'.items o.are more) i)))

  add_to_other : (c : Covers) (x y : Shape) (v u : Value) → Has s x v → Has s y u → Under s (row.add None x y) → Met s (asking.extend s.p s.a x y) → Sounds s (add_to c v u)
  add_to_other c _ _ _ _ none j b m = none_ok s c
  add_to_other c _ _ _ _ none_str j b m = none_ok s c
  add_to_other c _ _ _ _ (none_list k) j b m = none_ok s c
  add_to_other c _ _ _ _ (text width bytes h) none b m = none_ok s c
  add_to_other c _ _ _ _ (text width bytes h) none_str b m = none_ok s c
  add_to_other c _ _ _ _ (text width bytes h) (text w more j) b m = new_text_ok s (bytes ++ more) b
  add_to_other c _ _ _ _ (list t n r u h q) none b m = none_ok s c
  add_to_other c _ _ _ _ (list t n r u h q) (none_list k) b m = none_ok s c
  add_to_other c _ _ _ _ (list t n r u h q) (list t' n' r' u' h' q') b m =
      extend_ok r u t r' u' t' n' (Ref r) h q h' q' m (raise_to s (Lst t false) (Ref r) b (list t false r u h q))
  add_to_other c x y v u h j b m = absurd (misfits s b)

  add_to_words : (c : Covers) (x y : Shape) (v u : Value) → Has s x v → Has s y u → row.both_int x y ≡ true → Under s (row.number bin.Add x y) → Sounds s (add_to c v u)
  add_to_words c x y v u h j i b =
      let n = a_number s bin.Add x y b in
      let k = word_of s x v h (and_left (is_int x) (is_int y) i) in
      let l = word_of s y u j (and_right (is_int x) (is_int y) i) in
      subst (λ e. Sounds s (add_to c e u)) (sym k.is)
      (subst (λ e. Sounds s (add_to c (Word k.number) e)) (sym l.is)
      (arithmetic_ok s c word (λ z. num_ok s n.0 (wrap z) n.1) bin.Add k.number l.number))

  pub add_to_ok : (c : Covers) (x y : Shape) (v u : Value) → Has s x v → Has s y u → Under s (row.binary bin.Add None x y) → Met s (asking.extend s.p s.a x y) → Sounds s (add_to c v u)
  add_to_ok c x y v u h j b m = by (row.both_int x y) refl b
    where
      by : (i : Bool) → row.both_int x y ≡ i → Under s (if i then row.number bin.Add x y else row.binary_other bin.Add None x y) → Sounds s (add_to c v u)
      by true i b = add_to_words c x y v u h j i b
      by false i b = add_to_other c x y v u h j b m

  -- ---- tuples

  each_part : (xs : List Shape) (vs : List Value) → Have s xs vs → Each s.p.tables.classes s.a.same s.sorts (shapes_of xs) (parts_of vs)
  each_part [] [] h = no_more
  each_part [] (v ∷ vs) h = absurd h
  each_part (x ∷ xs) [] h = absurd h
  each_part (x ∷ xs) (v ∷ vs) h = and_more x (shapes_of xs) v (parts_of vs) h.0 (each_part xs vs h.1)

  pub new_tuple_ok : (xs : List Shape) (vs : List Value) → Have s xs vs → Under s (row.tuple xs) → Sounds s (new_tuple vs)
  new_tuple_ok xs vs h b =
      let g = fits s (nat_le (depth (Tup (shapes_of xs))) 8) (Tup (shapes_of xs)) b in
      paying_ok s tuple_cost (give (tuple vs)) (give_of s (Tup (shapes_of xs)) (tuple vs) g.1 (values.tuple (shapes_of xs) (parts_of vs) (each_part xs vs h)))

  same_count : (xs : Shapes) (vs : Values) → Each s.p.tables.classes s.a.same s.sorts xs vs → length (tuple_items vs) ≡ length (items xs)
  same_count _ _ no_more = refl
  same_count _ _ (and_more x xs v vs h hs) = ap suc (same_count xs vs hs)

  pub unpack_ok : (n place : ℕ) (x : Shape) (v : Value) → Has s x v → Under s (row.unpack n place x) → Sounds s (unpack n place v)
  unpack_ok n place _ _ (values.tuple xs vs h) b =
      let g = fits s (length (items xs) == n) (row.nth xs place) b in
      let f = nth_of s.p s.a s.sorts xs vs place h (unclash s (row.nth xs place) g.1) in
      if_true s (length (tuple_items vs) == n) (if_some bad (slice_get (tuple_items vs) place) give) bad (ap (λ l. l == n) (same_count xs vs h) ∙ g.0)
      (subst (λ o. Sounds s (if_some bad o give)) (sym f.there) (give_of s (row.nth xs place) f.item g.1 f.is))
  unpack_ok n place x v h b = absurd (misfits s b)

  -- ---- lists and dicts

  pub all_items : (site : ℕ) (xs : List Shape) (vs : List Value) → Have s xs vs → Met s (from_each (to_items s.p s.a site) xs) → AllOf s.p s.a s.sorts (Items s site) vs
  all_items site [] [] h m = tt
  all_items site [] (v ∷ vs) h m = absurd h
  all_items site (x ∷ xs) [] h m = absurd h
  all_items site (x ∷ xs) (v ∷ vs) h m = (goes s x (Items s site) v m.0.0 h.0, all_items site xs vs h.1 m.1)

  pub new_list_is_ok : (site : ℕ) (xs : List Shape) (vs : List Value) → Have s xs vs → Under s (Lst site false) → Met s (from_each (to_items s.p s.a site) xs) → Sounds s (new_list vs)
  new_list_is_ok site xs vs h b m = new_list_ok s site vs (all_items site xs vs h m) b

  pub new_dict_ok : (site : ℕ) → Under s (Dct site false) → Sounds s (paying dict_cost (new_object (Mapped [])))
  new_dict_ok site b = paying_ok s dict_cost (new_object (Mapped [])) (new_object_ok s (DictOf site) (Mapped []) (Dct site false) tt b (λ r e. dict site false r site e refl))

  pub comprehension_ok : (site : ℕ) → Under s (Lst site false) → Sounds s (paying comprehension_cost (new_object (Listed [])))
  comprehension_ok site b = paying_ok s comprehension_cost (new_object (Listed [])) (listed_ok s site [] tt b)

  pub add_item_ok : (x y : Shape) (v u : Value) → Has s x v → Has s y u → v ≢ Nothing → Under s (row.add_item x) → Met s (hold s.p s.a x y) → Sounds s (add_item v u)
  add_item_ok _ y _ u none j t b m = absurd (t refl)
  add_item_ok _ y _ u (none_list k) j t b m = absurd (t refl)
  add_item_ok _ y _ u (list k n r w h q) j t b m =
      let o = list_at s.p s.a s.q.sites s.sorts s.heap s.typed r w h in
      with_list_ok s r o.items (λ vs. paying item_cost (set_object r (Listed (vs ++ u ∷ [])) Nothing)) o.there
      (paying_ok s item_cost (set_object r (Listed (o.items ++ u ∷ [])) Nothing)
      (set_object_ok s r (ListOf w) (Listed (o.items ++ u ∷ [])) Nothing h
      (all_append s.p s.a s.sorts (Items s w) o.items (u ∷ []) o.are (item_goes s w k y u q m j, tt)) (raise_to s NoneOnly Nothing b none)))
  add_item_ok x y v u h j t b m = absurd (misfits s b)
