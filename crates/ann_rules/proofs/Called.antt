-- What calls ask.
use Rattle.std.proofs.Common.{◌≡◌, ◌<◌, ◌≤◌, ℕ, zero, suc, Bool, true, false, List, [], ◌∷◌, ◌++◌, length, map, Option, Some, None, refl, sym, ap, ◌∙◌, arith, subst}
use Rattle.std.specs.Prelude.{◌&&◌, ◌||◌, ◌==◌, if◌then◌else◌, slice_get}
use Rattle.std.proofs.lemmas.Bool.{eqb-true}
use Rattle.rpy_tree.specs.declared.program.Const.{Const}
use Rattle.rpy_tree.specs.declared.program.ClassInfo.{ClassInfo}
use Rattle.class_desc.specs.Line as line
use Rattle.class_desc.specs.Tables.{initial}
use Rattle.ann_element.specs.Sites.{leader, Same}
use Rattle.ann_lattice.specs.Shape.{Shape, Inst, Fun}
use Rattle.ann_lattice.specs.Order.{Below, Sub, has, Among, inst}
use Rattle.ann_lattice.specs.Assign.{Assignment, at, mark, Need, Up, Set, Holds}
use Rattle.ann_lattice.proofs.Ordered.{below_self, has_more, among_self, has_on}
use Rattle.ann_lattice.proofs.Tree.{sub_self, sub_on}
use Rattle.ann_laws.proofs.Pairs.{no, yes, Pair, nones, or_str, or_list, or_dict, or_inst, or_fun, truths, nums, strs, tups, lsts, dcts, insts, funs, unpair, and_left, and_right, both, or_second, or_first}
use Rattle.ann_laws.proofs.Containers.{Operand, AllPairs}
use Rattle.ann_rules.specs.Program.{Whole}
use Rattle.ann_rules.specs.Asks.{when, from_each, rest, paired, argument, arguments, defaults, reach, make, start_with, initial_needs, tie, tie_params, tie_two, tie_each, call_all, call_value, method_of, methods_from, methods, call_methods}
use Rattle.ann_rules.specs.Hold.{AllHold}
use Rattle.ann_rules.proofs.Facts.{hold_append, hold_left, hold_right, hold_both, hold_each, Facts, up_down, tie_down}

-- arguments, each below the one at its place
abbrev pub Belows : List ClassInfo → List ℕ → List Shape → List Shape → Type 0
Belows k u [] [] = Unit {0}
Belows k u [] (y ∷ ys) = ⊥
Belows k u (x ∷ xs) [] = ⊥
Belows k u (x ∷ xs) (y ∷ ys) = Below k u x y × Belows k u xs ys

pub belows_of : (k : List ClassInfo) (u : List ℕ) (xs ys : List Shape) → AllPairs k u xs ys → Belows k u xs ys
belows_of k u [] [] h = tt
belows_of k u [] (y ∷ ys) h = absurd h
belows_of k u (x ∷ xs) [] h = absurd h
belows_of k u (x ∷ xs) (y ∷ ys) h = (unpair k u x y h.0.pair, belows_of k u xs ys h.1)

rest_below : (k : List ClassInfo) (u : List ℕ) (xs ys : List Shape) → Belows k u xs ys → Belows k u (rest xs) (rest ys)
rest_below k u [] [] h = tt
rest_below k u [] (y ∷ ys) h = absurd h
rest_below k u (x ∷ xs) [] h = absurd h
rest_below k u (x ∷ xs) (y ∷ ys) h = h.1

module _ (p : Whole) (a b : Assignment) (f : Facts p a b) where
  abbrev k : List ClassInfo
  k = p.tables.classes

  abbrev u : List ℕ
  u = b.same

  argument_down : (g i : ℕ) (d : Option Const) (xs ys : List Shape) → Belows k u xs ys → AllHold k b (argument p g i d ys) → AllHold k b (argument p g i d xs)
  argument_down g i d [] [] h j = j
  argument_down g i d [] (y ∷ ys) h j = absurd h
  argument_down g i d (x ∷ xs) [] h j = absurd h
  argument_down g i d (x ∷ xs) (y ∷ ys) h j = (up_down p a b f (p.places.param g i) x y h.0 j.0, tt)

  arguments_down : (g i : ℕ) (ds : List (Option Const)) (xs ys : List Shape) → Belows k u xs ys → AllHold k b (arguments p g i ds ys) → AllHold k b (arguments p g i ds xs)
  arguments_down g i [] xs ys h j = tt
  arguments_down g i (d ∷ ds) xs ys h j =
      hold_both k b (argument p g i d xs) (arguments p g (suc i) ds (rest xs)) (argument p g i d ys) (arguments p g (suc i) ds (rest ys))
      (argument_down g i d xs ys h) (arguments_down g (suc i) ds (rest xs) (rest ys) (rest_below k u xs ys h)) j

  pub reach_down : (g : ℕ) (xs ys : List Shape) → Belows k u xs ys → AllHold k b (reach p g ys) → AllHold k b (reach p g xs)
  reach_down g xs ys h j = (j.0, arguments_down g zero (defaults p g) xs ys h j.1)

  -- ---- ties

  tie_params_down : (g h i : ℕ) (ds es : List (Option Const)) → AllHold k b (tie_params p b g h i ds es) → AllHold k b (tie_params p a g h i ds es)
  tie_params_down g h i [] es j = tt
  tie_params_down g h i (d ∷ ds) [] j = tt
  tie_params_down g h i (d ∷ ds) (e ∷ es) j =
      hold_both k b (tie p a (p.places.param g i) (p.places.param h i)) (tie_params p a g h (suc i) ds es)
      (tie p b (p.places.param g i) (p.places.param h i)) (tie_params p b g h (suc i) ds es)
      (tie_down p a b f (p.places.param g i) (p.places.param h i)) (tie_params_down g h (suc i) ds es) j

  tie_two_down : (received : Bool) (g h : ℕ) → AllHold k b (tie_two p b received g h) → AllHold k b (tie_two p a received g h)
  tie_two_down true g h j =
      hold_both k b (tie_params p a g h 1 (rest (defaults p g)) (rest (defaults p h))) (tie p a (p.places.result g) (p.places.result h))
      (tie_params p b g h 1 (rest (defaults p g)) (rest (defaults p h))) (tie p b (p.places.result g) (p.places.result h))
      (tie_params_down g h 1 (rest (defaults p g)) (rest (defaults p h))) (tie_down p a b f (p.places.result g) (p.places.result h)) j
  tie_two_down false g h j =
      hold_both k b (tie_params p a g h zero (defaults p g) (defaults p h)) (tie p a (p.places.result g) (p.places.result h))
      (tie_params p b g h zero (defaults p g) (defaults p h)) (tie p b (p.places.result g) (p.places.result h))
      (tie_params_down g h zero (defaults p g) (defaults p h)) (tie_down p a b f (p.places.result g) (p.places.result h)) j

  -- what holds for each of a list holds for one that it has
  one_by : (needs : ℕ → List Need) (g h : ℕ) (c : Bool) → (h == g) ≡ c → AllHold k b (needs h) → (c ≡ false → AllHold k b (needs g)) → AllHold k b (needs g)
  one_by needs g h true e i j = subst (λ x. AllHold k b (needs x)) (eqb-true h g e) i
  one_by needs g h false e i j = j refl

  one_of : (needs : ℕ → List Need) (g : ℕ) (gs : List ℕ) → has gs g ≡ true → AllHold k b (from_each needs gs) → AllHold k b (needs g)
  one_of needs g [] h i = absurd (no h)
  one_of needs g (h ∷ gs) i j =
      one_by needs g h (h == g) refl (hold_left k b (needs h) (from_each needs gs) j)
      (λ e. one_of needs g gs (sym (ap (λ c. c || has gs g) e) ∙ i) (hold_right k b (needs h) (from_each needs gs) j))

  -- what holds for each of a list holds for each of a part of it
  pub fewer : (ma mb : ℕ → List Need) → ((g : ℕ) → AllHold k b (mb g) → AllHold k b (ma g)) → (fs gs : List ℕ) → Among fs gs → AllHold k b (from_each mb gs) → AllHold k b (from_each ma fs)
  fewer ma mb down [] gs i j = tt
  fewer ma mb down (g ∷ fs) gs i j = hold_append k b (ma g) (from_each ma fs) (down g (one_of mb g gs i.0 j)) (fewer ma mb down fs gs i.1 j)

  pub tie_each_down : (received : Bool) (fs gs : List ℕ) → Among fs gs → AllHold k b (tie_each p b received gs gs) → AllHold k b (tie_each p a received fs fs)
  tie_each_down received fs gs i j =
      fewer (λ g. from_each (tie_two p a received g) fs) (λ g. from_each (tie_two p b received g) gs)
      (λ g. fewer (tie_two p a received g) (tie_two p b received g) (tie_two_down received g) fs gs i) fs gs i j

  pub call_all_down : (fs gs : List ℕ) (xs ys : List Shape) → Among fs gs → Belows k u xs ys → AllHold k b (call_all p b gs ys) → AllHold k b (call_all p a fs xs)
  call_all_down fs gs xs ys i h j =
      hold_both k b (from_each (λ g. reach p g xs) fs) (tie_each p a false fs fs) (from_each (λ g. reach p g ys) gs) (tie_each p b false gs gs)
      (fewer (λ g. reach p g xs) (λ g. reach p g ys) (λ g. reach_down g xs ys h) fs gs i) (tie_each_down false fs gs i) j

  pub call_value_down : (x y : Shape) (xs ys : List Shape) → Pair k u x y → Belows k u xs ys → AllHold k b (call_value p b y ys) → AllHold k b (call_value p a x xs)
  call_value_down _ _ xs ys (funs fs gs c d i e) h j = call_all_down fs gs xs ys i h j
  call_value_down _ _ xs ys q h j = tt

  -- ---- classes

  start_down : (c : ℕ) (o : Option ℕ) (xs ys : List Shape) → Belows k u xs ys → AllHold k b (start_with p c o ys) → AllHold k b (start_with p c o xs)
  start_down c None xs ys h j = tt
  start_down c (Some g) xs ys h j = reach_down g (Inst c false ∷ xs) (Inst c false ∷ ys) (below_self k f.classes.tree u (Inst c false), h) j

  pub make_down : (c : ℕ) (xs ys : List Shape) → Belows k u xs ys → AllHold k b (make p c ys) → AllHold k b (make p c xs)
  make_down c xs ys h j = (
    j.0,
    hold_both k b (from_each (initial_needs p) (initial p.tables c)) (start_with p c (line.init k c) xs)
        (from_each (initial_needs p) (initial p.tables c)) (start_with p c (line.init k c) ys) (λ i. i) (start_down c (line.init k c) xs ys h) j.1,
  )

  -- ---- methods

  abbrev method_needs : List Shape → ℕ × ℕ → List Need
  method_needs xs g = reach p g.1 (Inst g.0 false ∷ xs)

  each_append : (needs : ℕ × ℕ → List Need) (gs hs : List (ℕ × ℕ)) → AllHold k b (from_each needs (gs ++ hs)) → AllHold k b (from_each needs gs) × AllHold k b (from_each needs hs)
  each_append needs [] hs j = (tt, j)
  each_append needs (g ∷ gs) hs j =
      let r = each_append needs gs hs (hold_right k b (needs g) (from_each needs (gs ++ hs)) j) in
      (hold_append k b (needs g) (from_each needs gs) (hold_left k b (needs g) (from_each needs (gs ++ hs)) j) r.0, r.1)

  append_each : (needs : ℕ × ℕ → List Need) (gs hs : List (ℕ × ℕ)) → AllHold k b (from_each needs gs) → AllHold k b (from_each needs hs) → AllHold k b (from_each needs (gs ++ hs))
  append_each needs [] hs i j = j
  append_each needs (g ∷ gs) hs i j =
      hold_append k b (needs g) (from_each needs (gs ++ hs)) (hold_left k b (needs g) (from_each needs gs) i)
      (append_each needs gs hs (hold_right k b (needs g) (from_each needs gs) i) j)

  method_same : (xs ys : List Shape) → Belows k u xs ys → (gs : List (ℕ × ℕ)) → AllHold k b (from_each (method_needs ys) gs) → AllHold k b (from_each (method_needs xs) gs)
  method_same xs ys h gs j =
      hold_each k b (method_needs xs) (method_needs ys)
      (λ g. reach_down g.1 (Inst g.0 false ∷ xs) (Inst g.0 false ∷ ys) (below_self k f.classes.tree u (Inst g.0 false), h)) gs j

  -- a class that is made and below one is so in the larger assignment, and below what is above that one
  one_method : (xs ys : List Shape) (c : ℕ) (o : Option ℕ) (d e : Bool) → (d ≡ true → e ≡ true) → Belows k u xs ys
      → AllHold k b (from_each (method_needs ys) (paired c (if e then o else None))) → AllHold k b (from_each (method_needs xs) (paired c (if d then o else None)))
  one_method xs ys c o false e g h j = tt
  one_method xs ys c o true true g h j = method_same xs ys h (paired c o) j
  one_method xs ys c o true false g h j = absurd (no (g refl))

  made_below : (d e c : ℕ) → Sub k d e → (mark a (p.places.made c) && line.is_below k c d) ≡ true → (mark b (p.places.made c) && line.is_below k c e) ≡ true
  made_below d e c h i =
      both (mark b (p.places.made c)) (line.is_below k c e)
      (f.less.marks (p.places.made c) (and_left (mark a (p.places.made c)) (line.is_below k c d) i))
      (sub_on k f.classes.tree c d e (and_right (mark a (p.places.made c)) (line.is_below k c d) i) h)

  all_methods : (name : List ℕ) (d e : ℕ) (xs ys : List Shape) → Sub k d e → Belows k u xs ys → (c n : ℕ)
      → AllHold k b (from_each (method_needs ys) (methods_from p b e name c n)) → AllHold k b (from_each (method_needs xs) (methods_from p a d name c n))
  all_methods name d e xs ys h i c zero j = tt
  all_methods name d e xs ys h i c (suc n) j =
      let r = each_append (method_needs ys) (method_of p b e name c) (methods_from p b e name (suc c) n) j in
      append_each (method_needs xs) (method_of p a d name c) (methods_from p a d name (suc c) n)
      (one_method xs ys c (line.method k c name) (mark a (p.places.made c) && line.is_below k c d) (mark b (p.places.made c) && line.is_below k c e) (made_below d e c h) i r.0)
      (all_methods name d e xs ys h i (suc c) n r.1)

  -- the functions among them
  abbrev pub functions : List (ℕ × ℕ) → List ℕ
  functions gs = map (λ g. g.1) gs

  has_left : (g : ℕ) (gs hs : List ℕ) → has gs g ≡ true → has (gs ++ hs) g ≡ true
  has_left g [] hs i = absurd (no i)
  has_left g (h ∷ gs) hs i = has_left_by (h == g) g gs hs i (has_left g gs hs)
    where
      has_left_by : (c : Bool) (g : ℕ) (gs hs : List ℕ) → (c || has gs g) ≡ true → (has gs g ≡ true → has (gs ++ hs) g ≡ true) → (c || has (gs ++ hs) g) ≡ true
      has_left_by true g gs hs i j = refl
      has_left_by false g gs hs i j = j i

  has_right : (g : ℕ) (gs hs : List ℕ) → has hs g ≡ true → has (gs ++ hs) g ≡ true
  has_right g [] hs i = i
  has_right g (h ∷ gs) hs i = or_second (h == g) (has (gs ++ hs) g) (has_right g gs hs i)

  among_left : (fs gs hs : List ℕ) → Among fs gs → Among fs (gs ++ hs)
  among_left [] gs hs i = tt
  among_left (g ∷ fs) gs hs i = (has_left g gs hs i.0, among_left fs gs hs i.1)

  among_right : (fs gs hs : List ℕ) → Among fs hs → Among fs (gs ++ hs)
  among_right [] gs hs i = tt
  among_right (g ∷ fs) gs hs i = (has_right g gs hs i.0, among_right fs gs hs i.1)

  among_append : (fs gs hs : List ℕ) → Among fs hs → Among gs hs → Among (fs ++ gs) hs
  among_append [] gs hs i j = j
  among_append (g ∷ fs) gs hs i j = (i.0, among_append fs gs hs i.1 j)

  functions_append : (gs hs : List (ℕ × ℕ)) → functions (gs ++ hs) ≡ functions gs ++ functions hs
  functions_append [] hs = refl
  functions_append (g ∷ gs) hs = ap (λ l. g.1 ∷ l) (functions_append gs hs)

  one_function : (c : ℕ) (o : Option ℕ) (d e : Bool) → (d ≡ true → e ≡ true) → Among (functions (paired c (if d then o else None))) (functions (paired c (if e then o else None)))
  one_function c o false e g = tt
  one_function c o true true g = among_self (functions (paired c o))
  one_function c o true false g = absurd (no (g refl))

  all_functions : (name : List ℕ) (d e : ℕ) → Sub k d e → (c n : ℕ) → Among (functions (methods_from p a d name c n)) (functions (methods_from p b e name c n))
  all_functions name d e h c zero = tt
  all_functions name d e h c (suc n) =
      let now = one_function c (line.method k c name) (mark a (p.places.made c) && line.is_below k c d) (mark b (p.places.made c) && line.is_below k c e) (made_below d e c h) in
      let next = all_functions name d e h (suc c) n in
      let ma : List (ℕ × ℕ) = method_of p a d name c in
      let mb : List (ℕ × ℕ) = method_of p b e name c in
      let na : List (ℕ × ℕ) = methods_from p a d name (suc c) n in
      let nb : List (ℕ × ℕ) = methods_from p b e name (suc c) n in
      subst (λ l. Among l (functions (mb ++ nb))) (sym (functions_append ma na))
      (subst (λ l. Among (functions ma ++ functions na) l) (sym (functions_append mb nb))
      (among_append (functions ma) (functions na) (functions mb ++ functions nb)
      (among_left (functions ma) (functions mb) (functions nb) now) (among_right (functions na) (functions mb) (functions nb) next)))

  pub methods_among : (name : List ℕ) (d e : ℕ) → Sub k d e → Among (functions (methods p a d name)) (functions (methods p b e name))
  methods_among name d e h = all_functions name d e h zero (length k)

  pub call_methods_down : (name : List ℕ) (d e : ℕ) (xs ys : List Shape) → Sub k d e → Belows k u xs ys
      → AllHold k b (call_methods p b (methods p b e name) ys) → AllHold k b (call_methods p a (methods p a d name) xs)
  call_methods_down name d e xs ys h i j =
      hold_both k b (from_each (method_needs xs) (methods p a d name)) (tie_each p a true (functions (methods p a d name)) (functions (methods p a d name)))
      (from_each (method_needs ys) (methods p b e name)) (tie_each p b true (functions (methods p b e name)) (functions (methods p b e name)))
      (all_methods name d e xs ys h i zero (length k))
      (tie_each_down true (functions (methods p a d name)) (functions (methods p b e name)) (methods_among name d e h)) j
