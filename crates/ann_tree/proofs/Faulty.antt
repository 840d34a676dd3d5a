-- Larger operands show the faults of types of smaller ones, and so do the larger parts of a program.
use Rattle.std.proofs.Common.{◌≡◌, ◌+◌, ◌-◌, ℕ, suc, Bool, true, false, List, [], ◌∷◌, length, refl, sym, ap, ◌∙◌}
use Rattle.std.specs.Prelude.{◌==◌, ◌&&◌, ◌||◌, not, is_some}
use Rattle.std.specs.List.{list_all}
use Rattle.std.proofs.lemmas.Bool.{false≢true, eqb-true, eq-eqb}
use Rattle.rpy_tree.specs.declared.program.ClassInfo.{ClassInfo}
use Rattle.rpy_tree.specs.declared.program.Site.{Site}
use Rattle.rpy_meaning.specs.declared.row.RowOp.{RowOp}
use Rattle.rpy_meaning.specs.declared.row.RowOp.TheVariants as row
use Rattle.class_desc.specs.Line as line
use Rattle.ann_element.specs.Sites.{leader, Same}
use Rattle.ann_lattice.specs.declared.method.Method.{Method}
use Rattle.ann_lattice.specs.declared.method.Method.TheVariants as m
use Rattle.ann_lattice.specs.Methods.{method_named}
use Rattle.ann_lattice.specs.Shape.{Shape}
use Rattle.ann_lattice.specs.Order.{has, Among}
use Rattle.ann_lattice.specs.Assign.{Assignment, Under}
use Rattle.ann_lattice.specs.Join.{is_clash}
use Rattle.ann_lattice.specs.Kind.{some_nothing}
use Rattle.ann_lattice.proofs.Ordered.{among_self}
use Rattle.ann_laws.proofs.Pairs.{Pair, nones, or_str, or_list, or_dict, or_inst, or_fun, truths, nums, strs, tups, lsts, dcts, insts, funs, and_left, and_right, both, or_first, or_second}
use Rattle.ann_laws.proofs.Containers.{AllPairs}
use Rattle.ann_laws.specs.Rows.{Operands}
use Rattle.ann_rules.specs.Program.{Callee, Whole}
use Rattle.ann_rules.proofs.Facts.{Facts}
use Rattle.ann_rules.proofs.Called.{methods_among}
use Rattle.ann_rules.proofs.Flows.{pairs_asked}
use Rattle.ann_rules.specs.Rules.{asked}
use Rattle.ann_tree.specs.Faults.{Flaw, OfConstant, OfFamily, takes, callee_at, takes_beside, fit, is_list, some_first, some_second, modifying, modifies, prebuilt_from, may_be_constant, functions_in, methods_in, of_first, single, called, given, shows}

-- ---- functions that take their arguments

all_of : (test : ℕ → Bool) (gs : List ℕ) (f : ℕ) → list_all test gs ≡ true → has gs f ≡ true → test f ≡ true
all_of test [] f h i = absurd (false≢true i)
all_of test (g ∷ gs) f h i = by_test (g == f) refl i (λ j. all_of test gs f (and_right (test g) (list_all test gs) h) j)
  where
    by_test : (b : Bool) → (g == f) ≡ b → (b || has gs f) ≡ true → (has gs f ≡ true → test f ≡ true) → test f ≡ true
    by_test true e j rest = ap test (sym (eqb-true g f e)) ∙ and_left (test g) (list_all test gs) h
    by_test false e j rest = rest j

all_among : (test : ℕ → Bool) (fs gs : List ℕ) → Among fs gs → list_all test gs ≡ true → list_all test fs ≡ true
all_among test [] gs i h = refl
all_among test (f ∷ fs) gs i h = both (test f) (list_all test fs) (all_of test gs f h i.0) (all_among test fs gs i.1 h)

-- where all of them take their arguments, so do some of them
beside_down : (callees : List Callee) (fs gs : List ℕ) (n f : ℕ) → Among fs gs → takes_beside callees gs n f ≡ true → takes_beside callees fs n f ≡ true
beside_down callees fs gs n f i h =
    let c = callee_at callees f in
    both (takes c n) ((length c.defaults == n) || list_all (λ g. g == f) fs) (and_left (takes c n) ((length c.defaults == n) || list_all (λ g. g == f) gs) h)
    (by_count (length c.defaults == n) (and_right (takes c n) ((length c.defaults == n) || list_all (λ g. g == f) gs) h))
  where
    by_count : (b : Bool) → (b || list_all (λ g. g == f) gs) ≡ true → (b || list_all (λ g. g == f) fs) ≡ true
    by_count true j = refl
    by_count false j = all_among (λ g. g == f) fs gs i j

each_down : (callees : List Callee) (fs gs hs : List ℕ) (n : ℕ) → Among fs gs → list_all (λ f. takes_beside callees gs n f) hs ≡ true → list_all (λ f. takes_beside callees fs n f) hs ≡ true
each_down callees fs gs [] n i h = refl
each_down callees fs gs (f ∷ hs) n i h =
    let rest = list_all (λ f. takes_beside callees gs n f) hs in
    both (takes_beside callees fs n f) (list_all (λ f. takes_beside callees fs n f) hs)
    (beside_down callees fs gs n f i (and_left (takes_beside callees gs n f) rest h)) (each_down callees fs gs hs n i (and_right (takes_beside callees gs n f) rest h))

pub fit_down : (callees : List Callee) (fs gs : List ℕ) (n : ℕ) → Among fs gs → fit callees gs n ≡ true → fit callees fs n ≡ true
fit_down callees fs gs n i h = all_among (λ f. takes_beside callees fs n f) fs gs i (each_down callees fs gs gs n i h)

-- ---- operands

module _ (k : List ClassInfo) (u : List ℕ) where
  list_up : (x y : Shape) → Pair k u x y → is_list x ≡ true → is_list y ≡ true
  list_up _ _ (lsts s v a b e i) h = refl
  list_up _ _ nones h = absurd (false≢true h)
  list_up _ _ or_str h = absurd (false≢true h)
  list_up _ _ (or_list s) h = absurd (false≢true h)
  list_up _ _ (or_dict s) h = absurd (false≢true h)
  list_up _ _ (or_inst c) h = absurd (false≢true h)
  list_up _ _ (or_fun fs) h = absurd (false≢true h)
  list_up _ _ (truths a b i) h = absurd (false≢true h)
  list_up _ _ (nums a b i) h = absurd (false≢true h)
  list_up _ _ (strs a b i) h = absurd (false≢true h)
  list_up _ _ (tups xs ys i) h = absurd (false≢true h)
  list_up _ _ (dcts s v a b e i) h = absurd (false≢true h)
  list_up _ _ (insts c d a b e i) h = absurd (false≢true h)
  list_up _ _ (funs fs gs a b e i) h = absurd (false≢true h)

  first_up : (test other : Shape → Bool) (xs ys : List Shape) → ((x y : Shape) → Pair k u x y → test x ≡ true → other y ≡ true) → AllPairs k u xs ys → some_first test xs ≡ true → some_first other ys ≡ true
  first_up test other [] ys up h i = absurd (false≢true i)
  first_up test other (x ∷ xs) [] up h i = absurd h
  first_up test other (x ∷ xs) (y ∷ ys) up h i = up x y h.0.pair i

  second_up : (xs ys : List Shape) → AllPairs k u xs ys → some_second is_list xs ≡ true → some_second is_list ys ≡ true
  second_up [] ys h i = absurd (false≢true i)
  second_up (x ∷ xs) [] h i = absurd h
  second_up (x ∷ xs) (y ∷ ys) h i = first_up is_list is_list xs ys list_up h.1 i

  modifying_up : (n : Method) (a b : Bool) → (a ≡ true → b ≡ true) → modifying n a ≡ true → modifying n b ≡ true
  modifying_up m.Append a b f h = refl
  modifying_up m.Pop a b f h = refl
  modifying_up m.Insert a b f h = refl
  modifying_up m.Extend a b f h = f h
  modifying_up m.Reverse a b f h = refl
  modifying_up _ a b f h = absurd (false≢true h)

  modifies_up : (value : Bool) (o : RowOp) (xs ys : List Shape) → AllPairs k u xs ys → modifies value o xs ≡ true → modifies value o ys ≡ true
  modifies_up value row.StoreIndex xs ys h i = i
  modifies_up value row.DeleteIndex xs ys h i = refl
  modifies_up value row.AddTo xs ys h i =
      both (some_first is_list ys) (some_second is_list ys) (first_up is_list is_list xs ys list_up h (and_left (some_first is_list xs) (some_second is_list xs) i))
      (second_up xs ys h (and_right (some_first is_list xs) (some_second is_list xs) i))
  modifies_up value (row.Method name site) xs ys h i =
      let one = modifying (method_named name) (some_second is_list xs) in
      both (some_first is_list ys) (modifying (method_named name) (some_second is_list ys)) (first_up is_list is_list xs ys list_up h (and_left (some_first is_list xs) one i))
      (modifying_up (method_named name) (some_second is_list xs) (some_second is_list ys) (second_up xs ys h) (and_right (some_first is_list xs) one i))
  modifies_up value _ xs ys h i = absurd (false≢true i)

  long : (xs ys : List Shape) → AllPairs k u xs ys → length xs ≡ length ys
  long [] [] h = refl
  long [] (y ∷ ys) h = absurd h
  long (x ∷ xs) [] h = absurd h
  long (x ∷ xs) (y ∷ ys) h = ap suc (long xs ys h.1)

module _ (p : Whole) (a b : Assignment) (f : Facts p a b) where
  abbrev k : List ClassInfo
  k = p.tables.classes

  abbrev u : List ℕ
  u = b.same

  -- ---- what may be a constant

  prebuilt_up : (s v n : ℕ) (sites : List Site) → Same u s v → prebuilt_from p a s n sites ≡ true → prebuilt_from p b v n sites ≡ true
  prebuilt_up s v n [] e h = absurd (false≢true h)
  prebuilt_up s v n (site ∷ sites) e h =
      by_first (is_some site.prebuilt && (leader a.same n == leader a.same s)) refl h (λ j. prebuilt_up s v (suc n) sites e j)
    where
      class_up : (leader a.same n == leader a.same s) ≡ true → (leader u n == leader u v) ≡ true
      class_up i = eq-eqb (leader u n) (leader u v) (f.less.same.by n s (eqb-true (leader a.same n) (leader a.same s) i) ∙ e)

      by_first : (c : Bool) → (is_some site.prebuilt && (leader a.same n == leader a.same s)) ≡ c → (c || prebuilt_from p a s (suc n) sites) ≡ true → (prebuilt_from p a s (suc n) sites ≡ true → prebuilt_from p b v (suc n) sites ≡ true)
          → prebuilt_from p b v n (site ∷ sites) ≡ true
      by_first true i j rest =
          or_first (is_some site.prebuilt && (leader u n == leader u v)) (prebuilt_from p b v (suc n) sites)
          (both (is_some site.prebuilt) (leader u n == leader u v) (and_left (is_some site.prebuilt) (leader a.same n == leader a.same s) i)
          (class_up (and_right (is_some site.prebuilt) (leader a.same n == leader a.same s) i)))
      by_first false i j rest = or_second (is_some site.prebuilt && (leader u n == leader u v)) (prebuilt_from p b v (suc n) sites) (rest j)

  constant_up : (x y : Shape) → Pair k u x y → may_be_constant p a x ≡ true → may_be_constant p b y ≡ true
  constant_up _ _ (lsts s v c d e i) h = prebuilt_up s v 0 p.sites e h
  constant_up _ _ (dcts s v c d e i) h = prebuilt_up s v 0 p.sites e h
  constant_up _ _ nones h = absurd (false≢true h)
  constant_up _ _ or_str h = absurd (false≢true h)
  constant_up _ _ (or_list s) h = absurd (false≢true h)
  constant_up _ _ (or_dict s) h = absurd (false≢true h)
  constant_up _ _ (or_inst c) h = absurd (false≢true h)
  constant_up _ _ (or_fun fs) h = absurd (false≢true h)
  constant_up _ _ (truths c d i) h = absurd (false≢true h)
  constant_up _ _ (nums c d i) h = absurd (false≢true h)
  constant_up _ _ (strs c d i) h = absurd (false≢true h)
  constant_up _ _ (tups xs ys i) h = absurd (false≢true h)
  constant_up _ _ (insts c d e g i j) h = absurd (false≢true h)
  constant_up _ _ (funs fs gs c d e i) h = absurd (false≢true h)

  -- ---- what is called

  values_up : (x y : Shape) → Pair k u x y → Among (functions_in x) (functions_in y)
  values_up _ _ (funs fs gs c d i e) = i
  values_up _ _ nones = tt
  values_up _ _ or_str = tt
  values_up _ _ (or_list s) = tt
  values_up _ _ (or_dict s) = tt
  values_up _ _ (or_inst c) = tt
  values_up _ _ (or_fun fs) = tt
  values_up _ _ (truths c d i) = tt
  values_up _ _ (nums c d i) = tt
  values_up _ _ (strs c d i) = tt
  values_up _ _ (tups xs ys i) = tt
  values_up _ _ (lsts s v c d e i) = tt
  values_up _ _ (dcts s v c d e i) = tt
  values_up _ _ (insts c d e g i j) = tt

  methods_up : (name : List ℕ) (x y : Shape) → Pair k u x y → Among (methods_in p a name x) (methods_in p b name y)
  methods_up name _ _ (insts c d e g i j) = methods_among p a b f name c d i
  methods_up name _ _ nones = tt
  methods_up name _ _ or_str = tt
  methods_up name _ _ (or_list s) = tt
  methods_up name _ _ (or_dict s) = tt
  methods_up name _ _ (or_inst c) = tt
  methods_up name _ _ (or_fun fs) = tt
  methods_up name _ _ (truths c d i) = tt
  methods_up name _ _ (nums c d i) = tt
  methods_up name _ _ (strs c d i) = tt
  methods_up name _ _ (tups xs ys i) = tt
  methods_up name _ _ (lsts s v c d e i) = tt
  methods_up name _ _ (dcts s v c d e i) = tt
  methods_up name _ _ (funs fs gs c d i e) = tt

  first_among : (one other : Shape → List ℕ) (xs ys : List Shape) → ((x y : Shape) → Pair k u x y → Among (one x) (other y)) → AllPairs k u xs ys → Among (of_first one xs) (of_first other ys)
  first_among one other [] ys up h = tt
  first_among one other (x ∷ xs) [] up h = absurd h
  first_among one other (x ∷ xs) (y ∷ ys) up h = up x y h.0.pair

  called_up : (o : RowOp) (xs ys : List Shape) → AllPairs k u xs ys → Among (called p a o xs) (called p b o ys)
  called_up (row.Call g) xs ys h = among_self (g ∷ [])
  called_up (row.CallOf c g) xs ys h = among_self (g ∷ [])
  called_up row.CallValue xs ys h = first_among (functions_in) (functions_in) xs ys values_up h
  called_up (row.New c) xs ys h = among_self (single (line.init k c))
  called_up (row.Method name site) xs ys h = first_among (methods_in p a name) (methods_in p b name) xs ys (methods_up name) h
  called_up _ xs ys h = tt

  given_same : (o : RowOp) (xs ys : List Shape) → AllPairs k u xs ys → given o xs ≡ given o ys
  given_same (row.Call g) xs ys h = long k u xs ys h
  given_same (row.CallOf c g) xs ys h = long k u xs ys h
  given_same row.CallValue xs ys h = ap (λ n. n - 1) (long k u xs ys h)
  given_same (row.New c) xs ys h = ap (λ n. n + 1) (long k u xs ys h)
  given_same (row.Method name site) xs ys h = long k u xs ys h
  given_same _ xs ys h = refl

  -- ---- faults

  unfit_up : (c d : Bool) → (d ≡ true → c ≡ true) → not c ≡ true → not d ≡ true
  unfit_up c true g h = sym (ap not (g refl)) ∙ h
  unfit_up c false g h = refl

  pub shows_up : (flaw : Flaw) (value : Bool) (o : RowOp) (xs ys : List Shape) → AllPairs k u xs ys → shows p a flaw value o xs ≡ true → shows p b flaw value o ys ≡ true
  shows_up OfConstant value o xs ys h i =
      let one = modifies value o xs in
      let other = some_first (may_be_constant p a) xs in
      both (modifies value o ys) (some_first (may_be_constant p b) ys) (modifies_up k u value o xs ys h (and_left one other i))
      (first_up k u (may_be_constant p a) (may_be_constant p b) xs ys constant_up h (and_right one other i))
  shows_up OfFamily value o xs ys h i =
      unfit_up (fit p.callees (called p a o xs) (given o xs)) (fit p.callees (called p b o ys) (given o ys))
      (λ j. fit_down p.callees (called p a o xs) (called p b o ys) (given o xs) (called_up o xs ys h) (ap (λ n. fit p.callees (called p b o ys) n) (given_same o xs ys h) ∙ j)) i

  -- so do those by which an operation is asked something that is in no conflict
  pub shows_asked : (g : ℕ) (flaw : Flaw) (value : Bool) (o : RowOp) (xs ys : List Shape) (node : ℕ) (z : Shape) → Operands k u xs ys → is_clash z ≡ false → some_nothing xs ≡ false → Under k u (asked p b g o ys node) z
      → shows p a flaw value o xs ≡ true → shows p b flaw value o ys ≡ true
  shows_asked g flaw value o xs ys node z h free reached l i = shows_up flaw value o xs ys (pairs_asked p a b f g o xs ys node z h free reached l) i
