-- Rows of instances and of what tests say.
use Rattle.std.proofs.Common.{◌≡◌, ℕ, Bool, true, false, List, [], ◌∷◌, Option, Some, None, refl, sym, ap, ◌∙◌, ◌⊎◌, ⊎_elim, inl, inr}
use Rattle.std.specs.Prelude.{◌==◌, ◌&&◌, ◌||◌, is_some, if◌then◌else◌}
use Rattle.rpy_tree.specs.declared.program.ClassInfo.{ClassInfo}
use Rattle.class_desc.specs.Line as line
use Rattle.class_desc.specs.Tables.{Tables, home, declares}
use Rattle.ann_lattice.specs.Shape.{One, Any, OrNone, Shape, Nothing, NoneOnly, Truth, Num, Inst}
use Rattle.ann_lattice.specs.Order.{Sub, has, Below, least, none, truth, num, str, tuple, list, dict, inst, fun}
use Rattle.ann_lattice.specs.Laws.{IsTree}
use Rattle.ann_lattice.specs.Kind.{is_int, is_positive, is_str}
use Rattle.ann_lattice.specs.Methods as methods
use Rattle.ann_lattice.specs.Row as row
use Rattle.ann_lattice.proofs.Tree.{after, after_base, sub_self, sub_on}
use Rattle.ann_laws.proofs.Pairs.{no, yes, Pair, nones, or_str, or_list, or_dict, or_inst, or_fun, truths, nums, strs, tups, lsts, dcts, insts, funs, Rises, unpair, given_below, and_down, and_right, or_down}
use Rattle.ann_laws.proofs.Smaller.{int_down, positive_down, str_down}
use Rattle.ann_laws.proofs.Containers.{AllPairs}

-- ---- what a base has, the classes below it have

some_more : {A : Type 0} → (a b : Option A) → is_some b ≡ true → is_some (line.either_of a b) ≡ true
some_more (Some x) b h = refl
some_more None b h = h

nearest_by : {A : Type 0} → (has : ℕ → Option A) (c : ℕ) (cs rest : List ℕ) (b : Bool) → (is_some (line.nearest has rest) ≡ true → is_some (line.nearest has cs) ≡ true)
    → is_some (line.nearest has (if b then c ∷ cs else rest)) ≡ true → is_some (line.nearest has (c ∷ cs)) ≡ true
nearest_by has c cs rest true f h = h
nearest_by has c cs rest false f h = some_more (has c) (line.nearest has cs) (f h)

nearest_after : {A : Type 0} → (has : ℕ → Option A) (cs : List ℕ) (d : ℕ) → is_some (line.nearest has (after cs d)) ≡ true → is_some (line.nearest has cs) ≡ true
nearest_after has [] d h = h
nearest_after has (c ∷ cs) d h = nearest_by has c cs (after cs d) (c == d) (nearest_after has cs d) h

top_any_by : (passes : ℕ → Bool) (b : Bool) (c : ℕ) (found : Option ℕ) (cs : List ℕ) → (is_some (line.topmost passes None cs) ≡ true → is_some (line.topmost passes found cs) ≡ true)
    → is_some (line.topmost passes (line.higher b c None) cs) ≡ true → is_some (line.topmost passes (line.higher b c found) cs) ≡ true
top_any_by passes true c found cs f h = h
top_any_by passes false c found cs f h = f h

top_any : (passes : ℕ → Bool) (found : Option ℕ) (cs : List ℕ) → is_some (line.topmost passes None cs) ≡ true → is_some (line.topmost passes found cs) ≡ true
top_any passes found [] h = absurd (no h)
top_any passes found (c ∷ cs) h = top_any_by passes (passes c) c found cs (top_any passes found cs) h

top_by : (passes : ℕ → Bool) (c : ℕ) (cs rest : List ℕ) (b : Bool) → (is_some (line.topmost passes None rest) ≡ true → is_some (line.topmost passes None cs) ≡ true)
    → is_some (line.topmost passes None (if b then c ∷ cs else rest)) ≡ true → is_some (line.topmost passes None (c ∷ cs)) ≡ true
top_by passes c cs rest true f h = h
top_by passes c cs rest false f h = top_any passes (line.higher (passes c) c None) cs (f h)

top_after : (passes : ℕ → Bool) (cs : List ℕ) (d : ℕ) → is_some (line.topmost passes None (after cs d)) ≡ true → is_some (line.topmost passes None cs) ≡ true
top_after passes [] d h = h
top_after passes (c ∷ cs) d h = top_by passes c cs (after cs d) (c == d) (top_after passes cs d) h

-- which one passes last is the same from any place on from which one passes
top_any_case : (passes : ℕ → Bool) (c : ℕ) (found : Option ℕ) (cs : List ℕ) (b : Bool) → (is_some (line.topmost passes None cs) ≡ true → line.topmost passes found cs ≡ line.topmost passes None cs)
    → is_some (line.topmost passes (line.higher b c None) cs) ≡ true → line.topmost passes (line.higher b c found) cs ≡ line.topmost passes (line.higher b c None) cs
top_any_case passes c found cs true f h = refl
top_any_case passes c found cs false f h = f h

top_any_same : (passes : ℕ → Bool) (found : Option ℕ) (cs : List ℕ) → is_some (line.topmost passes None cs) ≡ true → line.topmost passes found cs ≡ line.topmost passes None cs
top_any_same passes found [] h = absurd (no h)
top_any_same passes found (c ∷ cs) h = top_any_case passes c found cs (passes c) (top_any_same passes found cs) h

top_same_by : (passes : ℕ → Bool) (c : ℕ) (cs rest : List ℕ) (b : Bool) → (is_some (line.topmost passes None rest) ≡ true → is_some (line.topmost passes None cs) ≡ true)
    → (is_some (line.topmost passes None rest) ≡ true → line.topmost passes None cs ≡ line.topmost passes None rest)
    → is_some (line.topmost passes None (if b then c ∷ cs else rest)) ≡ true → line.topmost passes None (c ∷ cs) ≡ line.topmost passes None (if b then c ∷ cs else rest)
top_same_by passes c cs rest true f g h = refl
top_same_by passes c cs rest false f g h = top_any_same passes (line.higher (passes c) c None) cs (f h) ∙ g h

top_same : (passes : ℕ → Bool) (cs : List ℕ) (d : ℕ) → is_some (line.topmost passes None (after cs d)) ≡ true → line.topmost passes None cs ≡ line.topmost passes None (after cs d)
top_same passes [] d h = refl
top_same passes (c ∷ cs) d h = top_same_by passes c cs (after cs d) (c == d) (top_after passes cs d) (top_same passes cs d) h

-- of two in a list one stands from the other on
meets_by : (m d e : ℕ) (ms rd re : List ℕ) (b c : Bool) → (m == d) ≡ b → (m == e) ≡ c → (b || has ms d) ≡ true → (c || has ms e) ≡ true
    → (has ms d ≡ true → has ms e ≡ true → (has rd e ≡ true) ⊎ (has re d ≡ true))
    → (has (if b then m ∷ ms else rd) e ≡ true) ⊎ (has (if c then m ∷ ms else re) d ≡ true)
meets_by m d e ms rd re true c f g h i rec = inl (ap (λ x. x || has ms e) g ∙ i)
meets_by m d e ms rd re false true f g h i rec = inr (ap (λ x. x || has ms d) f ∙ h)
meets_by m d e ms rd re false false f g h i rec = rec h i

meets : (l : List ℕ) (d e : ℕ) → has l d ≡ true → has l e ≡ true → (has (after l d) e ≡ true) ⊎ (has (after l e) d ≡ true)
meets [] d e h i = absurd (no h)
meets (m ∷ ms) d e h i = meets_by m d e ms (after ms d) (after ms e) (m == d) (m == e) refl refl h i (meets ms d e)

module _ (k : List ClassInfo) (tree : IsTree k) (u : List ℕ) where
  pub method_down : (name : List ℕ) (c d : ℕ) → Sub k c d → methods.has_method k name d ≡ true → methods.has_method k name c ≡ true
  method_down name c d h e =
      nearest_after (line.own_method k name) (line.above k c) d (ap (λ l. is_some (line.nearest (line.own_method k name) l)) (after_base k tree c d h) ∙ e)

  -- of two classes above a third one is above the other
  pub comparable : (c d e : ℕ) → Sub k c d → Sub k c e → Sub k d e ⊎ Sub k e d
  comparable c d e h i =
      ⊎_elim
      (λ (j : has (after (line.above k c) d) e ≡ true). inl (sym (ap (λ l. has l e) (after_base k tree c d h)) ∙ j))
      (λ (j : has (after (line.above k c) e) d ≡ true). inr (sym (ap (λ l. has l d) (after_base k tree c e i)) ∙ j))
      (meets (line.above k c) d e h i)

  -- one of two classes is above the other, which is not above it
  pub other_way : (c d e : ℕ) → Sub k c d → Sub k c e → line.is_below k d e ≡ false → line.is_below k e d ≡ true
  other_way c d e h i f = ⊎_elim (λ (j : Sub k d e). absurd (yes (sym j ∙ f))) (λ (j : Sub k e d). j) (comparable c d e h i)

  surely_by : (b c d e : Bool) → (d ≡ true → b ≡ true) → (c ≡ true → e ≡ true) → (b ≡ true → d ≡ false → e ≡ true)
      → Below k u (if b then Truth (Some true) else if c then Truth None else Truth (Some false)) (if d then Truth (Some true) else if e then Truth None else Truth (Some false))
  surely_by true c true e f g h = truth (Some true) (Some true) tt
  surely_by false c true e f g h = absurd (no (f refl))
  surely_by true c false true f g h = truth (Some true) None tt
  surely_by true c false false f g h = absurd (no (h refl refl))
  surely_by false true false true f g h = truth None None tt
  surely_by false true false false f g h = absurd (no (g refl))
  surely_by false false false true f g h = truth (Some false) None tt
  surely_by false false false false f g h = truth (Some false) (Some false) tt

  surely_rises : (e c d : ℕ) → Sub k c d → Below k u (row.surely k c e) (row.surely k d e)
  surely_rises e c d h =
      surely_by (line.is_below k c e) (line.is_below k e c) (line.is_below k d e) (line.is_below k e d)
      (λ i. sub_on k tree c d e h i) (λ i. sub_on k tree e c d i h) (λ i f. other_way c d e h i f)

  perhaps_by : (b c d e : Bool) → (c ≡ true → e ≡ true) → (b ≡ true → d ≡ false → e ≡ true)
      → Below k u (if b || c then Truth None else Truth (Some false)) (if d || e then Truth None else Truth (Some false))
  perhaps_by true c true e g h = truth None None tt
  perhaps_by true c false true g h = truth None None tt
  perhaps_by true c false false g h = absurd (no (h refl refl))
  perhaps_by false true true true g h = truth None None tt
  perhaps_by false true false true g h = truth None None tt
  perhaps_by false true d false g h = absurd (no (g refl))
  perhaps_by false false true e g h = truth (Some false) None tt
  perhaps_by false false false true g h = truth (Some false) None tt
  perhaps_by false false false false g h = truth (Some false) (Some false) tt

  perhaps_rises : (e c d : ℕ) → Sub k c d → Below k u (row.perhaps k c e) (row.perhaps k d e)
  perhaps_rises e c d h =
      perhaps_by (line.is_below k c e) (line.is_below k e c) (line.is_below k d e) (line.is_below k e d)
      (λ i. sub_on k tree e c d i h) (λ i f. other_way c d e h i f)

  widens_by : (b c d e : Bool) → (c ≡ true → e ≡ true) → (b ≡ true → d ≡ false → e ≡ true)
      → Below k u (if b then Truth (Some true) else if c then Truth None else Truth (Some false)) (if d || e then Truth None else Truth (Some false))
  widens_by true c true e g h = truth (Some true) None tt
  widens_by true c false true g h = truth (Some true) None tt
  widens_by true c false false g h = absurd (no (h refl refl))
  widens_by false true true true g h = truth None None tt
  widens_by false true false true g h = truth None None tt
  widens_by false true d false g h = absurd (no (g refl))
  widens_by false false true e g h = truth (Some false) None tt
  widens_by false false false true g h = truth (Some false) None tt
  widens_by false false false false g h = truth (Some false) (Some false) tt

  widens : (e c d : ℕ) → Sub k c d → Below k u (row.surely k c e) (row.perhaps k d e)
  widens e c d h =
      widens_by (line.is_below k c e) (line.is_below k e c) (line.is_below k d e) (line.is_below k e d)
      (λ i. sub_on k tree e c d i h) (λ i f. other_way c d e h i f)

  bottom_by : (b : Bool) → Below k u (Truth (Some false)) (if b then Truth None else Truth (Some false))
  bottom_by true = truth (Some false) None tt
  bottom_by false = truth (Some false) (Some false) tt

  pub is_instance_rises : (e : ℕ) (x y : Shape) → Pair k u x y → Rises k u (row.is_instance k e x) (row.is_instance k e y)
  is_instance_rises e _ _ nones = λ f. truth (Some false) (Some false) tt
  is_instance_rises e _ _ (or_inst d) = λ f. bottom_by (line.is_below k d e || line.is_below k e d)
  is_instance_rises e _ _ (insts c d false false h i) = λ f. surely_rises e c d h
  is_instance_rises e _ _ (insts c d false true h i) = λ f. widens e c d h
  is_instance_rises e _ _ (insts c d true true h i) = λ f. perhaps_rises e c d h
  is_instance_rises e _ _ (insts c d true false h i) = absurd i
  is_instance_rises e _ _ p = λ f. absurd (yes f)

  -- ---- attributes

  pub home_down : (t : Tables) → t.classes ≡ k → (name : List ℕ) (c d : ℕ) → Sub k c d → row.has_home t name d ≡ true → row.has_home t name c ≡ true
  home_down t e name c d h i =
      let above : List ℕ = line.above k c in
      let at : (l : List ℕ) → Bool = λ l. is_some (line.topmost (declares t.attributes name) None l) in
      ap (λ m. at (line.above m c)) e
      ∙ top_after (declares t.attributes name) above d (ap at (after_base k tree c d h) ∙ (sym (ap (λ m. at (line.above m d)) e) ∙ i))

  -- the home of an attribute is that in the higher class, where that has one
  pub home_same : (t : Tables) → t.classes ≡ k → (name : List ℕ) (c d : ℕ) → Sub k c d → row.has_home t name d ≡ true → home t c name ≡ home t d name
  home_same t e name c d h i =
      let at : (l : List ℕ) → Option ℕ = λ l. line.topmost (declares t.attributes name) None l in
      let above : at (line.above t.classes c) ≡ at (line.above k c) = ap (λ m. at (line.above m c)) e in
      let there : at (line.above t.classes d) ≡ at (line.above k d) = ap (λ m. at (line.above m d)) e in
      let from : at (after (line.above k c) d) ≡ at (line.above k d) = ap at (after_base k tree c d h) in
      above ∙ top_same (declares t.attributes name) (line.above k c) d (ap is_some from ∙ (sym (ap is_some there) ∙ i)) ∙ from ∙ sym there

  module _ (t : Tables) (same : t.classes ≡ k) where
    pub attribute_rises : (name : List ℕ) (x y a b : Shape) → Pair k u x y → Below k u a b → Rises k u (row.attribute t name x a) (row.attribute t name y b)
    attribute_rises name _ _ a b nones h = λ e. least _
    attribute_rises name _ _ a b (or_inst c) h = λ e. least _
    attribute_rises name _ _ a b (insts c d m n i j) h = given_below k u (row.has_home t name c) (row.has_home t name d) a b (home_down t same name c d i) h
    attribute_rises name _ _ a b p h = λ e. absurd (yes e)

    pub store_attribute_rises : (name : List ℕ) (x y a b : Shape) → Pair k u x y → Below k u a b → Rises k u (row.store_attribute t name x a) (row.store_attribute t name y b)
    store_attribute_rises name _ _ a b nones h = λ e. least _
    store_attribute_rises name _ _ a b (or_inst c) h = λ e. least _
    store_attribute_rises name _ _ a b (insts c d m n i j) h = given_below k u (row.has_home t name c) (row.has_home t name d) a b (home_down t same name c d i) h
    store_attribute_rises name _ _ a b p h = λ e. absurd (yes e)

  pub raised_rises : (x y : Shape) → Pair k u x y → Rises k u (row.raised k x) (row.raised k y)
  raised_rises _ _ nones = λ e. least _
  raised_rises _ _ (or_inst c) = λ e. least _
  raised_rises _ _ (insts c d m n i j) = given_below k u (line.is_below k c 0) (line.is_below k d 0) NoneOnly NoneOnly (λ e. sub_on k tree c d 0 i e) none
  raised_rises _ _ p = λ e. absurd (yes e)

  -- ---- calls

  pub call_of_rises : (e : ℕ) (xs ys : List Shape) (a b : Shape) → AllPairs k u xs ys → Below k u a b → Rises k u (row.call_of k e xs a) (row.call_of k e ys b)
  call_of_rises e [] [] a b h i = λ f. absurd (yes f)
  call_of_rises e [] (y ∷ ys) a b h i = absurd h
  call_of_rises e (x ∷ xs) [] a b h i = absurd h
  call_of_rises e (x ∷ xs) (y ∷ ys) a b h i = first_rises x y h.0.pair
    where
      first_rises : (x y : Shape) → Pair k u x y → Rises k u (row.call_of k e (x ∷ xs) a) (row.call_of k e (y ∷ ys) b)
      first_rises _ _ (insts c d false false j l) = given_below k u (line.is_below k c e) (line.is_below k d e) a b (λ f. sub_on k tree c d e j f) i
      first_rises _ _ (insts c d true false j l) = absurd l
      first_rises _ _ p = λ f. absurd (yes f)

  pub call_value_rises : (xs ys : List Shape) (a b : Shape) → AllPairs k u xs ys → Below k u a b → Rises k u (row.call_value xs a) (row.call_value ys b)
  call_value_rises [] [] a b h i = λ f. absurd (yes f)
  call_value_rises [] (y ∷ ys) a b h i = absurd h
  call_value_rises (x ∷ xs) [] a b h i = absurd h
  call_value_rises (x ∷ xs) (y ∷ ys) a b h i = first_rises x y h.0.pair
    where
      first_rises : (x y : Shape) → Pair k u x y → Rises k u (row.call_value (x ∷ xs) a) (row.call_value (y ∷ ys) b)
      first_rises _ _ nones = λ f. least _
      first_rises _ _ (or_fun fs) = λ f. least _
      first_rises _ _ (funs fs gs m n j l) = λ f. i
      first_rises _ _ p = λ f. absurd (yes f)

  takes_down : (c : ℕ) (xs ys : List Shape) → AllPairs k u xs ys → row.takes_arguments k c ys ≡ true → row.takes_arguments k c xs ≡ true
  takes_down c [] [] h e = refl
  takes_down c [] (y ∷ ys) h e = absurd h
  takes_down c (x ∷ xs) [] h e = absurd h
  takes_down c (x ∷ []) (y ∷ []) h e = and_down (is_str x) (line.is_below k c 0) (is_str y) (line.is_below k c 0) (str_down k u x y h.0.pair) (λ f. f) e
  takes_down c (x ∷ []) (y ∷ w ∷ ys) h e = absurd h.1
  takes_down c (x ∷ v ∷ xs) (y ∷ []) h e = absurd h.1
  takes_down c (x ∷ v ∷ xs) (y ∷ w ∷ ys) h e = absurd (no e)

  pub new_rises : (c : ℕ) (xs ys : List Shape) → AllPairs k u xs ys → Rises k u (row.new k c xs) (row.new k c ys)
  new_rises c xs ys h =
      given_below k u (is_some (line.init k c) || row.takes_arguments k c xs) (is_some (line.init k c) || row.takes_arguments k c ys) (Inst c false) (Inst c false)
      (or_down (is_some (line.init k c)) (row.takes_arguments k c xs) (is_some (line.init k c)) (row.takes_arguments k c ys) (λ e. e) (takes_down c xs ys h))
      (inst c c false false (sub_self k tree c) tt)

  -- ---- what a test says of a local

  pub drop_rises : (x y : Shape) → Pair k u x y → Rises k u (row.drop_none x) (row.drop_none y)
  drop_rises _ _ nones = λ e. least _
  drop_rises _ _ or_str = λ e. least _
  drop_rises _ _ (or_list s) = λ e. least _
  drop_rises _ _ (or_dict s) = λ e. least _
  drop_rises _ _ (or_inst c) = λ e. least _
  drop_rises _ _ (or_fun fs) = λ e. least _
  drop_rises _ _ (strs One One h) = λ e. str One One tt
  drop_rises _ _ (strs One Any h) = λ e. str One Any tt
  drop_rises _ _ (strs One OrNone h) = λ e. str One Any tt
  drop_rises _ _ (strs Any One h) = absurd h
  drop_rises _ _ (strs Any Any h) = λ e. str Any Any tt
  drop_rises _ _ (strs Any OrNone h) = λ e. str Any Any tt
  drop_rises _ _ (strs OrNone One h) = absurd h
  drop_rises _ _ (strs OrNone Any h) = absurd h
  drop_rises _ _ (strs OrNone OrNone h) = λ e. str Any Any tt
  drop_rises _ _ (lsts s v a b i h) = λ e. list s v false false i tt
  drop_rises _ _ (dcts s v a b i h) = λ e. dict s v false false i tt
  drop_rises _ _ (insts c d a b i h) = λ e. inst c d false false i tt
  drop_rises _ _ (funs fs gs a b i h) = λ e. fun fs gs false false i tt
  drop_rises _ _ (truths a b h) = λ e. truth a b h
  drop_rises _ _ (nums a b h) = λ e. num a b h
  drop_rises _ _ (tups xs ys h) = λ e. tuple xs ys h

  pub false_rises : (x y : Shape) → Pair k u x y → Rises k u (row.false_none x) (row.false_none y)
  false_rises _ _ (or_inst c) = λ e. none
  false_rises _ _ (or_fun fs) = λ e. none
  false_rises _ _ (insts c d a b i h) = λ e. none
  false_rises _ _ (funs fs gs a b i h) = λ e. none
  false_rises x y p = λ e. unpair k u x y p

  lower_by : (c d e : ℕ) (a b f g : Bool) → Sub k c d → line.is_below k c e ≡ a → (f ≡ true → a ≡ true) → (b ≡ true → g ≡ true) → (a ≡ true → f ≡ false → g ≡ true)
      → Below k u (if a then Inst c false else if b then Inst e false else Nothing) (if f then Inst d false else if g then Inst e false else Nothing)
  lower_by c d e true b true g h i l m n = inst c d false false h tt
  lower_by c d e false b true g h i l m n = absurd (no (l refl))
  lower_by c d e true b false true h i l m n = inst c e false false i tt
  lower_by c d e true b false false h i l m n = absurd (no (n refl refl))
  lower_by c d e false true false true h i l m n = inst e e false false (sub_self k tree e) tt
  lower_by c d e false true false false h i l m n = absurd (no (m refl))
  lower_by c d e false false false g h i l m n = least _

  pub lower_rises : (e : ℕ) (x y : Shape) → Pair k u x y → Rises k u (row.lower k e x) (row.lower k e y)
  lower_rises e _ _ nones = λ f. least _
  lower_rises e _ _ or_str = λ f. least _
  lower_rises e _ _ (or_list s) = λ f. least _
  lower_rises e _ _ (or_dict s) = λ f. least _
  lower_rises e _ _ (or_inst c) = λ f. least _
  lower_rises e _ _ (or_fun fs) = λ f. least _
  lower_rises e _ _ (insts c d a b h i) =
      λ f. lower_by c d e (line.is_below k c e) (line.is_below k e c) (line.is_below k d e) (line.is_below k e d) h refl
      (λ j. sub_on k tree c d e h j) (λ j. sub_on k tree e c d j h) (λ j g. other_way c d e h j g)
  lower_rises e x y p = λ f. unpair k u x y p

  num_below : (x y : Shape) → Pair k u x y → is_int x ≡ true → Below k u (Num false) y
  num_below _ _ (nums a b h) e = num false b tt
  num_below _ _ p e = absurd (no e)

  positive_by : (a b : Bool) (x y : Shape) → (b ≡ true → a ≡ true) → (a ≡ true → Below k u (Num false) y) → Below k u x y
      → Below k u (if a then Num false else x) (if b then Num false else y)
  positive_by true true x y f g h = num false false tt
  positive_by true false x y f g h = g refl
  positive_by false true x y f g h = absurd (no (f refl))
  positive_by false false x y f g h = h

  pub non_negative_rises : (x y v w : Shape) → Pair k u x y → Pair k u v w → Rises k u (row.non_negative x v) (row.non_negative y w)
  non_negative_rises x y v w p q =
      λ e. positive_by (is_positive v && is_int x) (is_positive w && is_int y) x y
      (and_down (is_positive v) (is_int x) (is_positive w) (is_int y) (positive_down k u v w q) (int_down k u x y p))
      (λ f. num_below x y p (and_right (is_positive v) (is_int x) f)) (unpair k u x y p)
