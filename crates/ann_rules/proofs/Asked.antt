-- What each operation asks of the parts of the program, and of its result.
use Rattle.std.proofs.Common.{◌≡◌, ◌<◌, ◌≤◌, ℕ, zero, suc, Bool, true, false, List, [], ◌∷◌, ◌++◌, length, map, Option, Some, None, refl, sym, ap, ◌∙◌, subst, ◌⊎◌, inl, inr}
use Rattle.std.specs.Prelude.{◌&&◌, ◌||◌, not, if◌then◌else◌, slice_get, is_some, ◌==◌}
use Rattle.std.proofs.lemmas.Bool.{eqb-true}
use Rattle.rpy_tree.specs.declared.program.ClassInfo.{ClassInfo}
use Rattle.rpy_tree.specs.declared.syntax.BinOp.{BinOp}
use Rattle.rpy_tree.specs.declared.syntax.BinOp.TheVariants as bin
use Rattle.rpy_tree.specs.declared.syntax.CmpOp.{CmpOp}
use Rattle.rpy_tree.specs.declared.syntax.CmpOp.TheVariants as cmp
use Rattle.rpy_meaning.specs.declared.row.RowOp.{RowOp}
use Rattle.rpy_meaning.specs.declared.row.RowOp.TheVariants as op
use Rattle.class_desc.specs.Line as line
use Rattle.class_desc.specs.Tables.{Tables, home}
use Rattle.ann_element.specs.Sites.{leader, Same}
use Rattle.ann_lattice.specs.declared.method.Method.{Method}
use Rattle.ann_lattice.specs.declared.method.Method.TheVariants as m
use Rattle.ann_lattice.specs.Shape.{Width, One, Any, OrNone, Shape, Nothing, NoneOnly, Truth, Num, Str, Tup, Lst, Dct, Inst, Fun, Clash, Shapes, end, more}
use Rattle.ann_lattice.specs.Order.{Below, Sub, Among, has, least}
use Rattle.ann_lattice.specs.Join.{is_clash}
use Rattle.ann_lattice.specs.Laws.{IsFormed}
use Rattle.ann_lattice.specs.Assign.{Assignment, at, mark, Need, Up, Set, Under, Holds}
use Rattle.ann_lattice.specs.Kind.{misfit, given, is_nothing, some_nothing, some_clash}
use Rattle.ann_lattice.specs.Methods.{method_named}
use Rattle.ann_lattice.specs.Row.{pieces, fitting, counted, if_shallow, has_home, attribute, store_attribute}
use Rattle.ann_lattice.proofs.Ordered.{below_self, below_on, among_self}
use Rattle.ann_laws.specs.Rows.{HasClasses}
use Rattle.ann_laws.proofs.Pairs.{no, yes, Pair, nones, or_str, or_list, or_dict, or_inst, or_fun, truths, nums, strs, tups, lsts, dcts, insts, funs, pair, unpair}
use Rattle.ann_laws.proofs.Equal.{reached_above}
use Rattle.ann_laws.proofs.Containers.{Operand, AllPairs, tuple_rises}
use Rattle.ann_laws.proofs.Calls.{no_misfit, above_clash, given_free}
use Rattle.ann_laws.proofs.Instances.{home_same}
use Rattle.ann_rules.specs.Program.{Whole}
use Rattle.ann_rules.specs.Asks as ask
use Rattle.ann_rules.specs.Hold.{AllHold}
use Rattle.ann_rules.proofs.Facts.{hold_append, hold_left, hold_right, hold_both, hold_each, hold_when, Facts, items_down, keys_down_to, to_items_down, to_items_rises, to_keys_down, flow_down, flow_into, look_up_down, look_up_key_down, hold_down, up_down}
use Rattle.ann_rules.proofs.Called.{belows_of, call_all_down, call_value_down, make_down, call_methods_down, methods_among}

module _ (p : Whole) (a b : Assignment) (f : Facts p a b) where
  abbrev k : List ClassInfo
  k = p.tables.classes

  abbrev u : List ℕ
  u = b.same

  -- ---- containers

  sum_down : (o : BinOp) (site : Option ℕ) (x y v w : Shape) → Pair k u x y → Pair k u v w → AllHold k b (ask.sum p b o site y w) → AllHold k b (ask.sum p a o site x v)
  sum_down bin.Add (Some s) x y v w q r h =
      hold_both k b (ask.flow p a x s) (ask.flow p a v s) (ask.flow p b y s) (ask.flow p b w s) (flow_down p a b f x y s q) (flow_down p a b f v w s r) h
  sum_down o None x y v w q r h = tt
  sum_down o (Some s) x y v w q r h = flow_down p a b f x y s q h

  extend_down : (x y v w : Shape) → Pair k u x y → Pair k u v w → AllHold k b (ask.extend p b y w) → AllHold k b (ask.extend p a x v)
  extend_down _ _ v w (lsts s t c d e i) r h = flow_into p a b f v w s t e r h
  extend_down _ _ v w q r h = tt

  compared_down : (o : CmpOp) (x y v w : Shape) → Pair k u x y → Pair k u v w → AllHold k b (ask.compared p b o y w) → AllHold k b (ask.compared p a o x v)
  compared_down cmp.Within x y v w q r h = look_up_down p a b f v w x y r (unpair k u x y q) h
  compared_down cmp.NotWithin x y v w q r h = look_up_down p a b f v w x y r (unpair k u x y q) h
  compared_down o x y v w q r h = tt

  walked_down : (s : ℕ) (x y : Shape) → Pair k u x y → AllHold k b (ask.walked p b s y) → AllHold k b (ask.walked p a s x)
  walked_down s _ _ (dcts t v c d e i) h = to_items_down p a b f s s (ask.keys_of p a t) (ask.keys_of p b v) refl (keys_down_to p a b f t v e) h
  walked_down s _ _ q h = tt

  all_items : (s : ℕ) (xs ys : List Shape) → AllPairs k u xs ys → AllHold k b (ask.from_each (ask.to_items p b s) ys) → AllHold k b (ask.from_each (ask.to_items p a s) xs)
  all_items s [] [] h i = tt
  all_items s [] (y ∷ ys) h i = absurd h
  all_items s (x ∷ xs) [] h i = absurd h
  all_items s (x ∷ xs) (y ∷ ys) h i =
      hold_both k b (ask.to_items p a s x) (ask.from_each (ask.to_items p a s) xs) (ask.to_items p b s y) (ask.from_each (ask.to_items p b s) ys)
      (to_items_down p a b f s s x y refl (unpair k u x y h.0.pair)) (all_items s xs ys h.1) i

  -- ---- attributes: of two classes one below the other, the home is that of the higher one, where that has one

  to_attribute_down : (o q : Option ℕ) (name : List ℕ) (x y : Shape) → (is_some q ≡ true → o ≡ q) → is_some q ≡ true → Below k u x y
      → AllHold k b (ask.to_attribute p b q name y) → AllHold k b (ask.to_attribute p a o name x)
  to_attribute_down o None name x y g e i h = absurd (no e)
  to_attribute_down o (Some c) name x y g e i h =
      subst (λ r. AllHold k b (ask.to_attribute p a r name x)) (sym (g e)) (up_down p a b f (p.places.attribute c name) x y i h.0, tt)

  -- ---- methods

  list_down : (n : Method) (s v : ℕ) (xs ys : List Shape) → Same u s v → AllPairs k u xs ys → AllHold k b (ask.list_asks p b n v ys) → AllHold k b (ask.list_asks p a n s xs)
  list_down m.Append s v (x ∷ []) (y ∷ []) e h i = to_items_down p a b f s v x y e (unpair k u x y h.0.pair) i
  list_down m.Append s v (x ∷ []) (y ∷ w ∷ ys) e h i = absurd h.1
  list_down m.Append s v (x ∷ []) [] e h i = absurd h
  list_down m.Insert s v (x ∷ c ∷ []) (y ∷ d ∷ []) e h i = to_items_down p a b f s v c d e (unpair k u c d h.1.0.pair) i
  list_down m.Insert s v (x ∷ c ∷ []) (y ∷ d ∷ w ∷ ys) e h i = absurd h.1.1
  list_down m.Insert s v (x ∷ c ∷ []) (y ∷ []) e h i = absurd h.1
  list_down m.Insert s v (x ∷ c ∷ []) [] e h i = absurd h
  list_down m.Extend s v (x ∷ []) (y ∷ []) e h i = flow_into p a b f x y s v e h.0.pair i
  list_down m.Extend s v (x ∷ []) (y ∷ w ∷ ys) e h i = absurd h.1
  list_down m.Extend s v (x ∷ []) [] e h i = absurd h
  list_down n s v xs ys e h i = tt

  -- the pairs of a dict
  pairs_by : (site : ℕ) (x y v w : Shape) → Below k u x y → Below k u v w → IsFormed y → IsFormed w → is_clash y ≡ false → is_clash w ≡ false
      → (c d : Bool) → is_nothing x ≡ c → is_nothing v ≡ d → AllHold k b (ask.pairs p b site y w) → AllHold k b (ask.pairs p a site x v)
  pairs_by site x y v w h i fy fw cy cw true d e g j =
      subst (λ n. AllHold k b (ask.when (not (n || is_nothing v)) (ask.to_items p a site (if_shallow (Tup (more x (more v end))))))) (sym e) tt
  pairs_by site x y v w h i fy fw cy cw false true e g j =
      subst (λ n. AllHold k b (ask.when (not (n || is_nothing v)) (ask.to_items p a site (if_shallow (Tup (more x (more v end))))))) (sym e)
      (subst (λ n. AllHold k b (ask.when (not n) (ask.to_items p a site (if_shallow (Tup (more x (more v end))))))) (sym g) tt)
  pairs_by site x y v w h i fy fw cy cw false false e g j =
      let ry : is_nothing y ≡ false = reached_above k u x y h e (is_nothing y) refl in
      let rw_ : is_nothing w ≡ false = reached_above k u v w i g (is_nothing w) refl in
      let there : AllHold k b (ask.to_items p b site (if_shallow (Tup (more y (more w end))))) =
      subst (λ n. AllHold k b (ask.when (not n) (ask.to_items p b site (if_shallow (Tup (more y (more w end))))))) rw_
      (subst (λ n. AllHold k b (ask.when (not (n || is_nothing w)) (ask.to_items p b site (if_shallow (Tup (more y (more w end))))))) ry j) in
      let q : Operand k u x y = record { pair = pair k u x y h e cy; formed = fy } in
      let r : Operand k u v w = record { pair = pair k u v w i g cw; formed = fw } in
      let here : AllHold k b (ask.to_items p a site (if_shallow (Tup (more x (more v end))))) =
      to_items_rises p a b f site site (if_shallow (Tup (more x (more v end)))) (if_shallow (Tup (more y (more w end)))) refl
      (tuple_rises k u (x ∷ v ∷ []) (y ∷ w ∷ []) (q, (r, tt))) there in
      subst (λ n. AllHold k b (ask.when (not (n || is_nothing v)) (ask.to_items p a site (if_shallow (Tup (more x (more v end))))))) (sym e)
      (subst (λ n. AllHold k b (ask.when (not n) (ask.to_items p a site (if_shallow (Tup (more x (more v end))))))) (sym g) here)

  listed_down : (n : Method) (s v site : ℕ) → Same u s v → AllHold k b (ask.listed p b n v site) → AllHold k b (ask.listed p a n s site)
  listed_down m.Keys s v site e h = to_items_down p a b f site site (ask.keys_of p a s) (ask.keys_of p b v) refl (keys_down_to p a b f s v e) h
  listed_down m.Values s v site e h = to_items_down p a b f site site (ask.items_of p a s) (ask.items_of p b v) refl (items_down p a b f s v e) h
  listed_down m.Items s v site e h =
      pairs_by site (ask.keys_of p a s) (ask.keys_of p b v) (ask.items_of p a s) (ask.items_of p b v) (keys_down_to p a b f s v e) (items_down p a b f s v e)
      (f.formed (p.places.key (leader u v))) (f.formed (p.places.item (leader u v))) (f.key_free (leader u v)) (f.item_free (leader u v))
      (is_nothing (ask.keys_of p a s)) (is_nothing (ask.items_of p a s)) refl refl h
  listed_down n s v site e h = tt

  dict_down : (n : Method) (s v : ℕ) (site : Option ℕ) (xs ys : List Shape) → Same u s v → AllPairs k u xs ys
      → AllHold k b (ask.dict_asks p b n v site ys) → AllHold k b (ask.dict_asks p a n s site xs)
  dict_down m.Get s v site (x ∷ xs) (y ∷ ys) e h i = to_keys_down p a b f s v x y e (unpair k u x y h.0.pair) i
  dict_down m.Get s v site (x ∷ xs) [] e h i = absurd h
  dict_down m.Get s v (Some site) [] ys e h i = tt
  dict_down m.Get s v None [] ys e h i = tt
  dict_down n s v None xs ys e h i = tt
  dict_down n s v (Some site) xs ys e h i = listed_down n s v site e i

  split_down : (n : Method) (site : Option ℕ) → AllHold k b (ask.split_asks p b n site) → AllHold k b (ask.split_asks p a n site)
  split_down m.Split (Some site) h = to_items_down p a b f site site (Str Any) (Str Any) refl (below_self k f.classes.tree u (Str Any)) h
  split_down m.Split None h = tt
  split_down n site h = tt

  method_down : (name : List ℕ) (site : Option ℕ) (x y : Shape) (xs ys : List Shape) → Pair k u x y → AllPairs k u xs ys
      → AllHold k b (ask.method_asks p b name site y ys) → AllHold k b (ask.method_asks p a name site x xs)
  method_down name site _ _ xs ys (insts c d n o i j) h g = call_methods_down p a b f name c d xs ys i (belows_of k u xs ys h) g
  method_down name site _ _ xs ys (lsts s t c d e i) h g = list_down (method_named name) s t xs ys e h g
  method_down name site _ _ xs ys (dcts s t c d e i) h g = dict_down (method_named name) s t site xs ys e h g
  method_down name site _ _ xs ys (strs c d i) h g = split_down (method_named name) site g
  method_down name site _ _ xs ys q h g = tt

  -- ---- by how many operands there are

  first_down : (na nb : Shape → List Shape → List Need) → ((x y : Shape) (xs ys : List Shape) → Pair k u x y → AllPairs k u xs ys → AllHold k b (nb y ys) → AllHold k b (na x xs))
      → (xs ys : List Shape) → AllPairs k u xs ys → AllHold k b (ask.with_first nb ys) → AllHold k b (ask.with_first na xs)
  first_down na nb down [] ys h i = tt
  first_down na nb down (x ∷ xs) [] h i = absurd h
  first_down na nb down (x ∷ xs) (y ∷ ys) h i = down x y xs ys h.0.pair h.1 i

  two_down : (na nb : Shape → Shape → List Need) → ((x y v w : Shape) → Pair k u x y → Pair k u v w → AllHold k b (nb y w) → AllHold k b (na x v))
      → (xs ys : List Shape) → AllPairs k u xs ys → AllHold k b (ask.with_two nb ys) → AllHold k b (ask.with_two na xs)
  two_down na nb down [] ys h i = tt
  two_down na nb down (x ∷ []) ys h i = tt
  two_down na nb down (x ∷ v ∷ c ∷ xs) ys h i = tt
  two_down na nb down (x ∷ v ∷ []) [] h i = absurd h
  two_down na nb down (x ∷ v ∷ []) (y ∷ []) h i = absurd h.1
  two_down na nb down (x ∷ v ∷ []) (y ∷ w ∷ d ∷ ys) h i = absurd h.1.1
  two_down na nb down (x ∷ v ∷ []) (y ∷ w ∷ []) h i = down x y v w h.0.pair h.1.0.pair i

  three_down : (na nb : Shape → Shape → Shape → List Need)
      → ((x y v w c d : Shape) → Pair k u x y → Pair k u v w → Pair k u c d → AllHold k b (nb y w d) → AllHold k b (na x v c))
      → (xs ys : List Shape) → AllPairs k u xs ys → AllHold k b (ask.with_three nb ys) → AllHold k b (ask.with_three na xs)
  three_down na nb down [] ys h i = tt
  three_down na nb down (x ∷ []) ys h i = tt
  three_down na nb down (x ∷ v ∷ []) ys h i = tt
  three_down na nb down (x ∷ v ∷ c ∷ e ∷ xs) ys h i = tt
  three_down na nb down (x ∷ v ∷ c ∷ []) [] h i = absurd h
  three_down na nb down (x ∷ v ∷ c ∷ []) (y ∷ []) h i = absurd h.1
  three_down na nb down (x ∷ v ∷ c ∷ []) (y ∷ w ∷ []) h i = absurd h.1.1
  three_down na nb down (x ∷ v ∷ c ∷ []) (y ∷ w ∷ d ∷ e ∷ ys) h i = absurd h.1.1.1
  three_down na nb down (x ∷ v ∷ c ∷ []) (y ∷ w ∷ d ∷ []) h i = down x y v w c d h.0.pair h.1.0.pair h.1.1.0.pair i

  -- ---- what is above the pieces of a row

  pub under_append : (xs ys : List Shape) (z : Shape) → Under k u xs z → Under k u ys z → Under k u (xs ++ ys) z
  under_append [] ys z h i = i
  under_append (x ∷ xs) ys z h i = (h.0, under_append xs ys z h.1 i)

  pub under_left : (xs ys : List Shape) (z : Shape) → Under k u (xs ++ ys) z → Under k u xs z
  under_left [] ys z h = tt
  under_left (x ∷ xs) ys z h = (h.0, under_left xs ys z h.1)

  pub under_right : (xs ys : List Shape) (z : Shape) → Under k u (xs ++ ys) z → Under k u ys z
  under_right [] ys z h = h
  under_right (x ∷ xs) ys z h = under_right xs ys z h.1

  -- an element is below one of a list, and so is each of another list
  abbrev pub Found : Shape → List Shape → Type 0
  Found x [] = ⊥
  Found x (q ∷ qs) = Below k u x q ⊎ Found x qs

  abbrev pub Matched : List Shape → List Shape → Type 0
  Matched [] qs = Unit {0}
  Matched (x ∷ xs) qs = Found x qs × Matched xs qs

  -- ---- the further parts

  held_matched : (x y : Shape) → Pair k u x y → Matched (ask.held p a x) (ask.held p b y)
  held_matched _ _ (lsts s v c d e i) = (inl (items_down p a b f s v e), tt)
  held_matched _ _ (dcts s v c d e i) = (inl (items_down p a b f s v e), tt)
  held_matched _ _ q = tt

  first_matched : (xs ys : List Shape) → AllPairs k u xs ys → Matched (ask.first_held p a xs) (ask.first_held p b ys)
  first_matched [] ys h = tt
  first_matched (x ∷ xs) [] h = absurd h
  first_matched (x ∷ xs) (y ∷ ys) h = held_matched x y h.0.pair

  second_matched : (xs ys : List Shape) → AllPairs k u xs ys → Matched (ask.second_held p a xs) (ask.second_held p b ys)
  second_matched [] ys h = tt
  second_matched (x ∷ xs) [] h = absurd h
  second_matched (x ∷ xs) (y ∷ ys) h = first_matched xs ys h.1

  result_by : (g h : ℕ) (gs : List ℕ) (c : Bool) → (h == g) ≡ c → (c ≡ false → Found (at a (p.places.result g)) (ask.results p b gs))
      → Found (at a (p.places.result g)) (ask.results p b (h ∷ gs))
  result_by g h gs true e i = inl (subst (λ n. Below k u (at a (p.places.result g)) (at b (p.places.result n))) (sym (eqb-true h g e)) (f.less.cells (p.places.result g)))
  result_by g h gs false e i = inr (i refl)

  result_found : (g : ℕ) (gs : List ℕ) → has gs g ≡ true → Found (at a (p.places.result g)) (ask.results p b gs)
  result_found g [] i = absurd (no i)
  result_found g (h ∷ gs) i = result_by g h gs (h == g) refl (λ e. result_found g gs (sym (ap (λ c. c || has gs g) e) ∙ i))

  results_matched : (fs gs : List ℕ) → Among fs gs → Matched (ask.results p a fs) (ask.results p b gs)
  results_matched [] gs i = tt
  results_matched (g ∷ fs) gs i = (result_found g gs i.0, results_matched fs gs i.1)

  value_matched : (x y : Shape) (xs ys : List Shape) → Pair k u x y → Matched (ask.first_results p a (x ∷ xs)) (ask.first_results p b (y ∷ ys))
  value_matched _ _ xs ys (funs fs gs c d i e) = results_matched fs gs i
  value_matched _ _ xs ys q = tt

  values_matched : (xs ys : List Shape) → AllPairs k u xs ys → Matched (ask.first_results p a xs) (ask.first_results p b ys)
  values_matched [] ys h = tt
  values_matched (x ∷ xs) [] h = absurd h
  values_matched (x ∷ xs) (y ∷ ys) h = value_matched x y xs ys h.0.pair

  method_matched : (name : List ℕ) (x y : Shape) (xs ys : List Shape) → Pair k u x y → AllPairs k u xs ys → Matched (ask.method_parts p a name (x ∷ xs)) (ask.method_parts p b name (y ∷ ys))
  method_matched name _ _ xs ys (insts c d n o i j) h =
      results_matched (map (λ g. g.1) (ask.methods p a c name)) (map (λ g. g.1) (ask.methods p b d name)) (methods_among p a b f name c d i)
  method_matched name _ _ xs ys (lsts s v c d e i) h = (inl (items_down p a b f s v e), tt)
  method_matched name _ _ xs ys (dcts s v c d e i) h = (inl (items_down p a b f s v e), tt)
  method_matched name _ _ xs ys (strs c d i) h = first_matched xs ys h
  method_matched name _ _ xs ys q h = tt

  methods_matched : (name : List ℕ) (xs ys : List Shape) → AllPairs k u xs ys → Matched (ask.method_parts p a name xs) (ask.method_parts p b name ys)
  methods_matched name [] ys h = tt
  methods_matched name (x ∷ xs) [] h = absurd h
  methods_matched name (x ∷ xs) (y ∷ ys) h = method_matched name x y xs ys h.0.pair h.1

  compare_matched : (o : CmpOp) (xs ys : List Shape) → AllPairs k u xs ys → Matched (ask.compare_parts p a o xs) (ask.compare_parts p b o ys)
  compare_matched cmp.Within xs ys h = second_matched xs ys h
  compare_matched cmp.NotWithin xs ys h = second_matched xs ys h
  compare_matched o xs ys h = tt

  -- a class whose instances have the attribute, where what is read or stored is free of conflict
  homed : (name : List ℕ) (d : ℕ) (y z : Shape) → is_clash z ≡ false → Below k u (given (has_home p.tables name d) y) z → has_home p.tables name d ≡ true
  homed name d y z g h = given_free k u f.classes.tree (has_home p.tables name d) y (above_clash k u (given (has_home p.tables name d) y) z g h)

  home_matched : (o q : Option ℕ) (name : List ℕ) → (is_some q ≡ true → o ≡ q) → is_some q ≡ true → Matched (ask.attribute_at p a o name) (ask.attribute_at p b q name)
  home_matched o None name g e = absurd (no e)
  home_matched o (Some c) name g e =
      subst (λ r. Matched (ask.attribute_at p a r name) (ask.attribute_at p b (Some c) name)) (sym (g e)) (inl (f.less.cells (p.places.attribute c name)), tt)

  attribute_matched : (name : List ℕ) (x y z : Shape) (xs ys : List Shape) → Pair k u x y → is_clash z ≡ false → Below k u (attribute p.tables name y Nothing) z
      → Matched (ask.first_attribute p a name (x ∷ xs)) (ask.first_attribute p b name (y ∷ ys))
  attribute_matched name _ _ z xs ys (insts c d n o i j) g h =
      home_matched (home p.tables c name) (home p.tables d name) name (λ e. home_same k f.classes.tree u p.tables refl name c d i e) (homed name d Nothing z g h)
  attribute_matched name _ _ z xs ys q g h = tt

  attributes_matched : (name : List ℕ) (xs ys : List Shape) (z : Shape) → AllPairs k u xs ys → is_clash z ≡ false → Under k u (counted p.tables (op.Attr name) ys Nothing ∷ []) z
      → Matched (ask.first_attribute p a name xs) (ask.first_attribute p b name ys)
  attributes_matched name [] ys z h g i = tt
  attributes_matched name (x ∷ []) [] z h g i = absurd h
  attributes_matched name (x ∷ v ∷ xs) [] z h g i = absurd h
  attributes_matched name (x ∷ []) (y ∷ []) z h g i = attribute_matched name x y z [] [] h.0.pair g i.0
  attributes_matched name (x ∷ []) (y ∷ w ∷ ys) z h g i = absurd h.1
  attributes_matched name (x ∷ v ∷ xs) (y ∷ []) z h g i = absurd h.1
  attributes_matched name (x ∷ v ∷ []) (y ∷ w ∷ []) z h g i = absurd (no_misfit k u z g i.0)
  attributes_matched name (x ∷ v ∷ []) (y ∷ w ∷ d ∷ ys) z h g i = absurd h.1.1
  attributes_matched name (x ∷ v ∷ c ∷ xs) (y ∷ w ∷ []) z h g i = absurd h.1.1
  attributes_matched name (x ∷ v ∷ c ∷ []) (y ∷ w ∷ d ∷ []) z h g i = absurd (no_misfit k u z g i.0)
  attributes_matched name (x ∷ v ∷ c ∷ []) (y ∷ w ∷ d ∷ e ∷ ys) z h g i = absurd h.1.1.1
  attributes_matched name (x ∷ v ∷ c ∷ e ∷ xs) (y ∷ w ∷ d ∷ []) z h g i = absurd h.1.1.1
  attributes_matched name (x ∷ v ∷ c ∷ e ∷ xs) (y ∷ w ∷ d ∷ j ∷ ys) z h g i = absurd (no_misfit k u z g i.0)

  pub parts_matched : (o : RowOp) (xs ys : List Shape) (z : Shape) → AllPairs k u xs ys → is_clash z ≡ false → Under k u (fitting p.tables o ys Nothing) z
      → Matched (ask.parts p a o xs) (ask.parts p b o ys)
  parts_matched (op.Index literal) xs ys z h g i = first_matched xs ys h
  parts_matched (op.Item None) xs ys z h g i = first_matched xs ys h
  parts_matched (op.Item (Some step)) xs ys z h g i = tt
  parts_matched (op.Compare o) xs ys z h g i = compare_matched o xs ys h
  parts_matched (op.Attr name) xs ys z h g i = attributes_matched name xs ys z h g i
  parts_matched (op.Call c) xs ys z h g i = results_matched (c ∷ []) (c ∷ []) (among_self (c ∷ []))
  parts_matched (op.CallOf d c) xs ys z h g i = results_matched (c ∷ []) (c ∷ []) (among_self (c ∷ []))
  parts_matched op.CallValue xs ys z h g i = values_matched xs ys h
  parts_matched (op.Method name site) xs ys z h g i = methods_matched name xs ys h
  parts_matched o xs ys z h g i = tt

  -- ---- stores to attributes

  store_one : (name : List ℕ) (x y v w z : Shape) → Pair k u x y → Pair k u v w → is_clash z ≡ false → Below k u (store_attribute p.tables name y w) z
      → AllHold k b (ask.store p b name y w) → AllHold k b (ask.store p a name x v)
  store_one name _ _ v w z (insts c d n o i j) q g h l =
      to_attribute_down (home p.tables c name) (home p.tables d name) name v w (λ e. home_same k f.classes.tree u p.tables refl name c d i e) (homed name d w z g h) (unpair k u v w q) l
  store_one name _ _ v w z r q g h l = tt

  store_down : (name : List ℕ) (xs ys : List Shape) (z : Shape) → AllPairs k u xs ys → is_clash z ≡ false → Under k u (counted p.tables (op.StoreAttr name) ys Nothing ∷ []) z
      → AllHold k b (ask.with_two (ask.store p b name) ys) → AllHold k b (ask.with_two (ask.store p a name) xs)
  store_down name [] ys z h g i l = tt
  store_down name (x ∷ []) ys z h g i l = tt
  store_down name (x ∷ v ∷ c ∷ xs) ys z h g i l = tt
  store_down name (x ∷ v ∷ []) [] z h g i l = absurd h
  store_down name (x ∷ v ∷ []) (y ∷ []) z h g i l = absurd h.1
  store_down name (x ∷ v ∷ []) (y ∷ w ∷ d ∷ ys) z h g i l = absurd h.1.1
  store_down name (x ∷ v ∷ []) (y ∷ w ∷ []) z h g i l = store_one name x y v w z h.0.pair h.1.0.pair g i.0 l

  -- ---- what each operation asks of parts

  pub asks_down : (o : RowOp) (xs ys : List Shape) (z : Shape) → AllPairs k u xs ys → is_clash z ≡ false → Under k u (fitting p.tables o ys Nothing) z
      → AllHold k b (ask.asks p b o ys) → AllHold k b (ask.asks p a o xs)
  asks_down (op.Binary o site) xs ys z h g i l = two_down (ask.sum p a o site) (ask.sum p b o site) (sum_down o site) xs ys h l
  asks_down op.AddTo xs ys z h g i l = two_down (ask.extend p a) (ask.extend p b) extend_down xs ys h l
  asks_down (op.Slice s low high) xs ys z h g i l =
      first_down (λ x vs. ask.flow p a x s) (λ y ws. ask.flow p b y s) (λ x y vs ws q r. flow_down p a b f x y s q) xs ys h l
  asks_down (op.AllButLast s) xs ys z h g i l =
      first_down (λ x vs. ask.flow p a x s) (λ y ws. ask.flow p b y s) (λ x y vs ws q r. flow_down p a b f x y s q) xs ys h l
  asks_down (op.List s) xs ys z h g i l = all_items s xs ys h l
  asks_down (op.Compare o) xs ys z h g i l = two_down (ask.compared p a o) (ask.compared p b o) (compared_down o) xs ys h l
  asks_down (op.Index literal) xs ys z h g i l =
      two_down (ask.look_up_key p a) (ask.look_up_key p b) (λ x y v w q r. look_up_key_down p a b f x y v w q (unpair k u v w r)) xs ys h l
  asks_down op.DeleteIndex xs ys z h g i l =
      two_down (ask.look_up_key p a) (ask.look_up_key p b) (λ x y v w q r. look_up_key_down p a b f x y v w q (unpair k u v w r)) xs ys h l
  asks_down op.StoreIndex xs ys z h g i l =
      three_down (λ x j v. ask.look_up_key p a x j ++ ask.hold p a x v) (λ y j w. ask.look_up_key p b y j ++ ask.hold p b y w)
      (λ x y v w c d q r t. hold_both k b (ask.look_up_key p a x v) (ask.hold p a x c) (ask.look_up_key p b y w) (ask.hold p b y d)
      (look_up_key_down p a b f x y v w q (unpair k u v w r)) (hold_down p a b f x y c d q (unpair k u c d t))) xs ys h l
  asks_down (op.StoreAttr name) xs ys z h g i l = store_down name xs ys z h g i l
  asks_down op.AddItem xs ys z h g i l = two_down (ask.hold p a) (ask.hold p b) (λ x y v w q r. hold_down p a b f x y v w q (unpair k u v w r)) xs ys h l
  asks_down (op.Walk s) xs ys z h g i l =
      first_down (λ x vs. ask.walked p a s x) (λ y ws. ask.walked p b s y) (λ x y vs ws q r. walked_down s x y q) xs ys h l
  asks_down (op.Constant c) xs ys z h g i l = l
  asks_down (op.Call c) xs ys z h g i l = call_all_down p a b f (c ∷ []) (c ∷ []) xs ys (among_self (c ∷ [])) (belows_of k u xs ys h) l
  asks_down (op.CallOf d c) xs ys z h g i l = call_all_down p a b f (c ∷ []) (c ∷ []) xs ys (among_self (c ∷ [])) (belows_of k u xs ys h) l
  asks_down op.CallValue xs ys z h g i l =
      first_down (ask.call_value p a) (ask.call_value p b) (λ x y vs ws q r. call_value_down p a b f x y vs ws q (belows_of k u vs ws r)) xs ys h l
  asks_down (op.New c) xs ys z h g i l = make_down p a b f c xs ys (belows_of k u xs ys h) l
  asks_down (op.Method name site) xs ys z h g i l =
      first_down (ask.method_asks p a name site) (ask.method_asks p b name site) (λ x y vs ws q r. method_down name site x y vs ws q r) xs ys h l
  asks_down o xs ys z h g i l = tt
