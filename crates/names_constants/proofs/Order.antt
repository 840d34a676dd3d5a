-- Values that are found are kept: lists of values with more and more of them.
use Rattle.std.proofs.Common.{◌≡◌, ℕ, ◌+◌, ◌≤◌, ◌<◌, zero, suc, [], ◌∷◌, length, Option, Some, None, sym, ap, refl, arith, subst, ◌⊎◌, inl, inr}
use Rattle.rpy_tree.specs.declared.program.Const.{Const}
use Rattle.names_value.specs.Machine.{constant_at}
pub use Rattle.names_constants.specs.Least.{Below, Values, AllBelow}

pub below_path : {A : Type 0} (x y : Option A) → x ≡ y → Below x y
below_path None y e = tt
below_path (Some c) y e = sym e

pub below_trans : {A : Type 0} (x y z : Option A) → Below x y → Below y z → Below x z
below_trans None y z h k = tt
below_trans (Some c) y z h k = subst (λ (o : Option _). Below o z) h k

pub below_both : {A : Type 0} (x y : Option A) → Below x y → Below y x → x ≡ y
below_both None None h k = refl
below_both None (Some d) h k = k
below_both (Some c) y h k = sym h

pub all_trans : (xs ys zs : Values) → AllBelow xs ys → AllBelow ys zs → AllBelow xs zs
all_trans [] [] zs h k = k
all_trans [] (y ∷ ys) zs h k = absurd h
all_trans (x ∷ xs) [] zs h k = absurd h
all_trans (x ∷ xs) (y ∷ ys) [] h k = absurd k
all_trans (x ∷ xs) (y ∷ ys) (z ∷ zs) h k = (below_trans x y z h.0 k.0, all_trans xs ys zs h.1 k.1)

pub all_both_ways : (xs ys : Values) → AllBelow xs ys → AllBelow ys xs → xs ≡ ys
all_both_ways [] [] h k = refl
all_both_ways [] (y ∷ ys) h k = absurd h
all_both_ways (x ∷ xs) [] h k = absurd h
all_both_ways (x ∷ xs) (y ∷ ys) h k = λ j. below_both x y h.0 k.0 j ∷ all_both_ways xs ys h.1 k.1 j

pub at_below : (xs ys : Values) (n : ℕ) → AllBelow xs ys → Below (constant_at xs n) (constant_at ys n)
at_below [] [] n h = below_path (constant_at [] n) (constant_at [] n) refl
at_below [] (y ∷ ys) n h = absurd h
at_below (x ∷ xs) [] n h = absurd h
at_below (x ∷ xs) (y ∷ ys) zero h = h.0
at_below (x ∷ xs) (y ∷ ys) (suc n) h = at_below xs ys n h.1

-- ---- how many are found

abbrev pub one_if : Option Const → ℕ
one_if None = 0
one_if (Some c) = 1

abbrev pub count : Values → ℕ
count [] = 0
count (x ∷ xs) = one_if x + count xs

one_at_most : (x : Option Const) → one_if x ≤ 1
one_at_most None = omega arith
one_at_most (Some c) = omega arith

pub count_length : (xs : Values) → count xs ≤ length xs
count_length [] = omega arith
count_length (x ∷ xs) = omega (arith, one_at_most x, count_length xs)

abbrev Grown : Values → Values → Type 0
Grown xs ys = (xs ≡ ys) ⊎ (count xs < count ys)

count_below : (xs ys : Values) → AllBelow xs ys → count xs ≤ count ys
count_below [] [] h = omega arith
count_below [] (y ∷ ys) h = absurd h
count_below (x ∷ xs) [] h = absurd h
count_below (None ∷ xs) (y ∷ ys) h = omega (arith, count_below xs ys h.1)
count_below (Some c ∷ xs) (y ∷ ys) h = subst (λ (o : Option Const). count (Some c ∷ xs) ≤ count (o ∷ ys)) (sym h.0) (omega (arith, count_below xs ys h.1))

grown_by : (x : Option Const) (xs ys : Values) → Grown xs ys → Grown (x ∷ xs) (x ∷ ys)
grown_by x xs ys (inl e) = inl (ap (λ zs. x ∷ zs) e)
grown_by x xs ys (inr lt) = inr (omega (arith, lt))

pub grown : (xs ys : Values) → AllBelow xs ys → Grown xs ys
grown [] [] h = inl refl
grown [] (y ∷ ys) h = absurd h
grown (x ∷ xs) [] h = absurd h
grown (None ∷ xs) (None ∷ ys) h = grown_by None xs ys (grown xs ys h.1)
grown (None ∷ xs) (Some d ∷ ys) h = inr (omega (arith, count_below xs ys h.1))
grown (Some c ∷ xs) (y ∷ ys) h = subst (λ (o : Option Const). Grown (Some c ∷ xs) (o ∷ ys)) (sym h.0) (grown_by (Some c) xs ys (grown xs ys h.1))

pub same_length : (xs ys : Values) → AllBelow xs ys → length xs ≡ length ys
same_length [] [] h = refl
same_length [] (y ∷ ys) h = absurd h
same_length (x ∷ xs) [] h = absurd h
same_length (x ∷ xs) (y ∷ ys) h = ap suc (same_length xs ys h.1)

full_by : (xs ys : Values) → Grown xs ys → length xs ≡ length ys → length xs ≤ count xs → xs ≡ ys
full_by xs ys (inl e) n full = e
full_by xs ys (inr lt) n full = absurd (omega (arith, lt, n, full, count_length ys))

-- where all are found no more are
pub full : (xs ys : Values) → AllBelow xs ys → length xs ≤ count xs → xs ≡ ys
full xs ys h f = full_by xs ys (grown xs ys h) (same_length xs ys h) f
