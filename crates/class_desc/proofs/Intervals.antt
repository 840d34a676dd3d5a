-- Classes that are numbered so that those below one have the numbers of a range. A class is below its parent, which is 0 where it has no base and else
-- one more than the number of the base.
use Rattle.std.proofs.Common.{◌≡◌, ◌≢◌, ℕ, zero, suc, ◌+◌, ◌<◌, ◌≤◌, List, [], ◌∷◌, Bool, true, false, refl, sym, ap, ◌∙◌, arith, subst, ◌⊎◌, inl, inr}
use Rattle.std.specs.Prelude.{◌==◌}
use Rattle.std.proofs.lemmas.Bool.{cases_order}
use Rattle.class_desc.proofs.Sums.{when, sum_to, when_zero, when_add, same_is, other_is, next_same, turned, sum_add, sum_same, sum_zero, sum_when, sum_swap, sum_le, sum_one}

-- how often a number stands in a list
abbrev pub count : ℕ → List ℕ → ℕ
count d [] = 0
count d (c ∷ cs) = when (c == d) 1 + count d cs

abbrev pub Among : ℕ → List ℕ → Type 0
Among d [] = ⊥
Among d (c ∷ cs) = (c ≡ d) ⊎ Among d cs

module _ (parent : ℕ → ℕ) (n : ℕ) where
  -- the whole line from a parent on
  abbrev pub IsLine : ℕ → List ℕ → Type 0
  IsLine p [] = p ≡ 0
  IsLine p (x ∷ xs) = (p ≡ suc x) × (x < n) × IsLine (parent x) xs

  pub one_line : (p q : ℕ) (xs ys : List ℕ) → IsLine p xs → IsLine q ys → p ≡ q → xs ≡ ys
  one_line p q [] [] lx ly e = refl
  one_line p q [] (y ∷ ys) lx ly e = absurd (omega (arith, lx, ly.0, e))
  one_line p q (x ∷ xs) [] lx ly e = absurd (omega (arith, lx.0, ly, e))
  one_line p q (x ∷ xs) (y ∷ ys) lx ly e =
      let same : x ≡ y = omega (arith, lx.0, ly.0, e) in
      ap (λ z. z ∷ xs) same ∙ ap (λ zs. y ∷ zs) (one_line (parent x) (parent y) xs ys lx.2 ly.2 (ap parent same))

  -- how often a child of b stands in a line
  abbrev pub children : ℕ → List ℕ → ℕ
  children b xs = sum_to (λ s. when (parent s == suc b) (count s xs)) n

  no_children : (b : ℕ) → children b [] ≡ 0
  no_children b = sum_same (λ s. when (parent s == suc b) 0) (λ s. 0) n (λ i lt. when_zero (parent i == suc b)) ∙ sum_zero n

  more_children : (b x : ℕ) (xs : List ℕ) → x < n → children b (x ∷ xs) ≡ when (parent x == suc b) 1 + children b xs
  more_children b x xs lt =
      sum_same (λ s. when (parent s == suc b) (when (x == s) 1 + count s xs)) (λ s. when (parent s == suc b) (when (x == s) 1) + when (parent s == suc b) (count s xs)) n
      (λ i below. when_add (parent i == suc b) (when (x == i) 1) (count i xs))
      ∙ sum_add (λ s. when (parent s == suc b) (when (x == s) 1)) (λ s. when (parent s == suc b) (count s xs)) n
      ∙ ap (λ k. k + children b xs) (sum_one (λ s. parent s == suc b) x n lt)

  -- b stands in a line where the line begins with it, and behind each of its children
  line_count : (p b : ℕ) (xs : List ℕ) → IsLine p xs → count b xs ≡ when (p == suc b) 1 + children b xs
  line_count p b [] l =
      let none : when (p == suc b) 1 ≡ 0 = ap (λ t. when t 1) (other_is p (suc b) (λ e. omega (arith, e, l))) in
      omega (arith, none, no_children b)
  line_count p b (x ∷ xs) l =
      let first : when (x == b) 1 ≡ when (p == suc b) 1 = ap (λ t. when t 1) (sym (next_same x b) ∙ ap (λ q. q == suc b) (sym l.0)) in
      omega (arith, first, line_count (parent x) b xs l.2, more_children b x xs l.1)

  module _ (lines : ℕ → List ℕ) (forest : (c : ℕ) → c < n → IsLine (suc c) (lines c)) where
    -- how many classes are below one
    abbrev pub size : ℕ → ℕ
    size d = sum_to (λ x. count d (lines x)) n

    -- the sizes of the children of a parent among the first classes
    abbrev pub kids : ℕ → ℕ → ℕ
    kids p m = sum_to (λ s. when (parent s == p) (size s)) m

    all_children : (b : ℕ) → sum_to (λ x. children b (lines x)) n ≡ kids (suc b) n
    all_children b =
        sum_swap (λ x s. when (parent s == suc b) (count s (lines x))) n n
        ∙ sum_same (λ s. sum_to (λ x. when (parent s == suc b) (count s (lines x))) n) (λ s. when (parent s == suc b) (size s)) n
        (λ i lt. sum_when (parent i == suc b) (λ x. count i (lines x)) n)

    itself : (b : ℕ) → b < n → sum_to (λ x. when (suc x == suc b) 1) n ≡ 1
    itself b lt =
        sum_same (λ x. when (suc x == suc b) 1) (λ x. when true (when (b == x) 1)) n (λ i below. ap (λ t. when t 1) (next_same i b ∙ turned i b))
        ∙ sum_one (λ s. true) b n lt

    pub size_is : (b : ℕ) → b < n → size b ≡ 1 + kids (suc b) n
    size_is b lt =
        let parts : size b ≡ sum_to (λ x. when (suc x == suc b) 1) n + sum_to (λ x. children b (lines x)) n =
        sum_same (λ x. count b (lines x)) (λ x. when (suc x == suc b) 1 + children b (lines x)) n (λ i below. line_count (suc i) b (lines i) (forest i below))
        ∙ sum_add (λ x. when (suc x == suc b) 1) (λ x. children b (lines x)) n in
        omega (arith, parts, itself b lt, all_children b)

    kids_step : (p s m : ℕ) → parent s ≡ p → s < m → kids p s + size s ≤ kids p m
    kids_step p s m e lt =
        let here : when (parent s == p) (size s) ≡ size s = ap (λ t. when t (size s)) (same_is (parent s) p e) in
        omega (arith, here, sum_le (λ i. when (parent i == p) (size i)) (suc s) m (omega (arith, lt)))

    -- the number of a class, by its line
    abbrev pub offset : ℕ → ℕ
    offset c = kids (parent c) c + 1

    abbrev pub number : List ℕ → ℕ
    number [] = 0
    number (c ∷ cs) = offset c + number cs

    -- one step up
    step_in : (x z : ℕ) (zs : List ℕ) → x < n → z < n → parent x ≡ suc z → (number (z ∷ zs) < number (x ∷ z ∷ zs)) × (number (x ∷ z ∷ zs) + size x ≤ number (z ∷ zs) + size z)
    step_in x z zs lx lz e =
        let whole : size z ≡ 1 + kids (parent x) n = size_is z lz ∙ ap (λ p. 1 + kids p n) (sym e) in
        let part : kids (parent x) x + size x ≤ kids (parent x) n = kids_step (parent x) x n refl lx in
        (omega arith, omega (arith, whole, part))

    pub inside : (x : ℕ) (xs : List ℕ) (y : ℕ) (ys : List ℕ) → IsLine (suc x) (x ∷ xs) → IsLine (suc y) (y ∷ ys) → Among y xs
        → (number (y ∷ ys) < number (x ∷ xs)) × (number (x ∷ xs) + size x ≤ number (y ∷ ys) + size y)
    inside x [] y ys lx ly there = absurd there
    inside x (z ∷ zs) y ys lx ly (inl e) =
        let same : zs ≡ ys = one_line (parent z) (parent y) zs ys lx.2.2 ly.2 (ap parent e) in
        let up : (number (z ∷ zs) < number (x ∷ z ∷ zs)) × (number (x ∷ z ∷ zs) + size x ≤ number (z ∷ zs) + size z) = step_in x z zs lx.1 lx.2.1 lx.2.0 in
        let number_same : number (z ∷ zs) ≡ number (y ∷ ys) = ap (λ c. number (c ∷ zs)) e ∙ ap (λ cs. number (y ∷ cs)) same in
        let size_same : size z ≡ size y = ap size e in
        (omega (arith, up.0, number_same), omega (arith, up.1, number_same, size_same))
    inside x (z ∷ zs) y ys lx ly (inr there) =
        let up : (number (z ∷ zs) < number (x ∷ z ∷ zs)) × (number (x ∷ z ∷ zs) + size x ≤ number (z ∷ zs) + size z) = step_in x z zs lx.1 lx.2.1 lx.2.0 in
        let rest : (number (y ∷ ys) < number (z ∷ zs)) × (number (z ∷ zs) + size z ≤ number (y ∷ ys) + size y) =
        inside z zs y ys (refl, lx.2.1, lx.2.2) ly there in
        (omega (arith, up.0, rest.0), omega (arith, up.1, rest.1))

    -- where a line passes a parent, or ends, stands a child of that parent, with its own line
    record Child (p : ℕ) (cs : List ℕ) : Type 0 where
      child : ℕ
      above : List ℕ
      there : Among child cs
      line : IsLine (suc child) (child ∷ above)
      parent_is : parent child ≡ p

    further : (p c : ℕ) (cs : List ℕ) → Child p cs → Child p (c ∷ cs)
    further p c cs k = record { child = k.child; above = k.above; there = inr k.there; line = k.line; parent_is = k.parent_is }

    root_of : (c : ℕ) (cs : List ℕ) → IsLine (suc c) (c ∷ cs) → Child 0 (c ∷ cs)
    root_of c [] l = record { child = c; above = []; there = inl refl; line = l; parent_is = l.2 }
    root_of c (z ∷ zs) l = further 0 c (z ∷ zs) (root_of z zs (refl, l.2.1, l.2.2))

    child_of : (e c : ℕ) (cs : List ℕ) → IsLine (suc c) (c ∷ cs) → Among e cs → Child (suc e) (c ∷ cs)
    child_of e c [] l there = absurd there
    child_of e c (z ∷ zs) l (inl is) = record { child = c; above = z ∷ zs; there = inl refl; line = l; parent_is = l.2.0 ∙ ap suc is }
    child_of e c (z ∷ zs) l (inr there) = further (suc e) c (z ∷ zs) (child_of e z zs (refl, l.2.1, l.2.2) there)

    -- two classes: the second is above the first, or the first above the second, or the numbers of one and of what is below it come before those of the other
    data Places (c : ℕ) (cs : List ℕ) (d : ℕ) (ds : List ℕ) : Type 0 where
      on : Among d (c ∷ cs) → Places c cs d ds
      under : Among c ds → Places c cs d ds
      before : number (c ∷ cs) + size c ≤ number (d ∷ ds) → Places c cs d ds
      after : number (d ∷ ds) + size d ≤ number (c ∷ cs) → Places c cs d ds

    same_end : (c : ℕ) (cs : List ℕ) (f : ℕ) (fs : List ℕ) → IsLine (suc c) (c ∷ cs) → IsLine (suc f) (f ∷ fs) → Among f (c ∷ cs)
        → (number (f ∷ fs) ≤ number (c ∷ cs)) × (number (c ∷ cs) + size c ≤ number (f ∷ fs) + size f)
    same_end c cs f fs lc lf (inl e) =
        let same : cs ≡ fs = one_line (parent c) (parent f) cs fs lc.2 lf.2 (ap parent e) in
        let number_same : number (c ∷ cs) ≡ number (f ∷ fs) = ap (λ x. number (x ∷ cs)) e ∙ ap (λ xs. number (f ∷ xs)) same in
        let size_same : size c ≡ size f = ap size e in
        (omega (arith, number_same), omega (arith, number_same, size_same))
    same_end c cs f fs lc lf (inr there) =
        let u : (number (f ∷ fs) < number (c ∷ cs)) × (number (c ∷ cs) + size c ≤ number (f ∷ fs) + size f) = inside c cs f fs lc lf there in
        (omega (arith, u.0), u.1)

    -- children of one parent, of which the first has the lower number
    sibling : (f : ℕ) (fs : List ℕ) (d : ℕ) (ds : List ℕ) → IsLine (suc f) (f ∷ fs) → IsLine (suc d) (d ∷ ds) → parent f ≡ parent d → f < d
        → number (f ∷ fs) + size f ≤ number (d ∷ ds)
    sibling f fs d ds lf ld e lt =
        let same : number fs ≡ number ds = ap number (one_line (parent f) (parent d) fs ds lf.2 ld.2 e) in
        let part : kids (parent f) f + size f ≤ kids (parent f) d = kids_step (parent f) f d refl lt in
        let moved : kids (parent f) d ≡ kids (parent d) d = ap (λ p. kids p d) e in
        omega (arith, same, part, moved)

    compare : (c : ℕ) (cs : List ℕ) (d : ℕ) (ds : List ℕ) → IsLine (suc c) (c ∷ cs) → IsLine (suc d) (d ∷ ds) → Child (parent d) (c ∷ cs) → Places c cs d ds
    compare c cs d ds lc ld k =
        let up : (number (k.child ∷ k.above) ≤ number (c ∷ cs)) × (number (c ∷ cs) + size c ≤ number (k.child ∷ k.above) + size k.child) =
        same_end c cs k.child k.above lc k.line k.there in
        elim (cases_order k.child d) [
          | inl e ↦ on (subst (λ x. Among x (c ∷ cs)) e k.there)
          | inr (inl lt) ↦ before (omega (arith, up.1, sibling k.child k.above d ds k.line ld k.parent_is lt))
          | inr (inr gt) ↦ after (omega (arith, up.0, sibling d ds k.child k.above ld k.line (sym k.parent_is) gt))
        ]

    place_under : (c : ℕ) (cs : List ℕ) (d e : ℕ) (es : List ℕ) → IsLine (suc c) (c ∷ cs) → IsLine (suc d) (d ∷ e ∷ es) → Places c cs e es → Places c cs d (e ∷ es)
    place_under c cs d e es lc ld (on (inl is)) = under (inl (sym is))
    place_under c cs d e es lc ld (on (inr there)) =
        compare c cs d (e ∷ es) lc ld (subst (λ p. Child p (c ∷ cs)) (sym ld.2.0) (child_of e c cs lc there))
    place_under c cs d e es lc ld (under there) = under (inr there)
    place_under c cs d e es lc ld (before le) =
        let up : (number (e ∷ es) < number (d ∷ e ∷ es)) × (number (d ∷ e ∷ es) + size d ≤ number (e ∷ es) + size e) = step_in d e es ld.1 ld.2.1 ld.2.0 in
        before (omega (arith, le, up.0))
    place_under c cs d e es lc ld (after le) =
        let up : (number (e ∷ es) < number (d ∷ e ∷ es)) × (number (d ∷ e ∷ es) + size d ≤ number (e ∷ es) + size e) = step_in d e es ld.1 ld.2.1 ld.2.0 in
        after (omega (arith, le, up.1))

    place : (c : ℕ) (cs : List ℕ) (d : ℕ) (ds : List ℕ) → IsLine (suc c) (c ∷ cs) → IsLine (suc d) (d ∷ ds) → Places c cs d ds
    place c cs d [] lc ld = compare c cs d [] lc ld (subst (λ p. Child p (c ∷ cs)) (sym ld.2) (root_of c cs lc))
    place c cs d (e ∷ es) lc ld = place_under c cs d e es lc ld (place c cs e es lc (refl, ld.2.1, ld.2.2))

    -- a class is below another exactly where its number lies in the other's range
    pub falls_in : (c : ℕ) (cs : List ℕ) (d : ℕ) (ds : List ℕ) → IsLine (suc c) (c ∷ cs) → IsLine (suc d) (d ∷ ds) → Among d (c ∷ cs)
        → (number (d ∷ ds) ≤ number (c ∷ cs)) × (number (c ∷ cs) < number (d ∷ ds) + size d)
    falls_in c cs d ds lc ld there =
        let u : (number (d ∷ ds) ≤ number (c ∷ cs)) × (number (c ∷ cs) + size c ≤ number (d ∷ ds) + size d) = same_end c cs d ds lc ld there in
        (u.0, omega (arith, u.1, size_is c lc.1))

    only_by : (c : ℕ) (cs : List ℕ) (d : ℕ) (ds : List ℕ) → IsLine (suc c) (c ∷ cs) → IsLine (suc d) (d ∷ ds)
        → number (d ∷ ds) ≤ number (c ∷ cs) → number (c ∷ cs) < number (d ∷ ds) + size d → Places c cs d ds → Among d (c ∷ cs)
    only_by c cs d ds lc ld low high (on there) = there
    only_by c cs d ds lc ld low high (under there) = absurd (omega (arith, low, (inside d ds c cs ld lc there).0))
    only_by c cs d ds lc ld low high (before le) = absurd (omega (arith, low, le, size_is c lc.1))
    only_by c cs d ds lc ld low high (after le) = absurd (omega (arith, high, le))

    pub only_below : (c : ℕ) (cs : List ℕ) (d : ℕ) (ds : List ℕ) → IsLine (suc c) (c ∷ cs) → IsLine (suc d) (d ∷ ds)
        → number (d ∷ ds) ≤ number (c ∷ cs) → number (c ∷ cs) < number (d ∷ ds) + size d → Among d (c ∷ cs)
    only_below c cs d ds lc ld low high = only_by c cs d ds lc ld low high (place c cs d ds lc ld)
