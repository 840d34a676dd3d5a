-- Places in lists.
use Rattle.std.proofs.Common.{◌≡◌, ◌≢◌, ◌⊎◌, inl, inr, ◌<◌, ℕ, zero, suc, ◌+◌, Bool, true, false, List, [], ◌∷◌, ◌++◌, length, Option, Some, None, refl, sym, ap, ◌∙◌, arith}
use Rattle.std.specs.Prelude.{slice_get, slice_set, replicate, ◌==◌, ◌||◌}
use Rattle.std.specs.List.{list_any}
use Rattle.std.proofs.lemmas.Bool.Decides.{eqb_tells}
use Rattle.class_desc.proofs.Intervals.{Among}
use Rattle.class_desc.proofs.Sums.{same_is}
use Rattle.rtyper_layout.specs.declared.classes.Laid.{Laid}
use Rattle.rtyper_layout.specs.Types.{laid_in}

pub same_some : {A : Type 0} {a b : A} → Some a ≡ Some b → a ≡ b
same_some h = cc

pub no_some : {A : Type 0} {a : A} → None ≡ Some a → ⊥
no_some h = cc

pub no_none : {A : Type 0} {a : A} → Some a ≡ None → ⊥
no_none h = cc

pub not_true : false ≡ true → ⊥
not_true h = cc

pub is_same : (m n : ℕ) → (m == n) ≡ true → m ≡ n
is_same m n e = elim (eqb_tells m n) [ inl t ↦ t.1 | inr t ↦ absurd (not_true (sym t.0 ∙ e)) ]

-- ---- lists

module _ {A : Type 0} where
  pub get_left : (xs ys : List A) (i : ℕ) (x : A) → slice_get xs i ≡ Some x → slice_get (xs ++ ys) i ≡ Some x
  get_left [] ys i x h = absurd (no_some h)
  get_left (y ∷ xs) ys zero x h = h
  get_left (y ∷ xs) ys (suc i) x h = get_left xs ys i x h

  pub get_right : (xs ys : List A) (n i : ℕ) → n ≡ length xs + i → slice_get (xs ++ ys) n ≡ slice_get ys i
  get_right [] ys n i h = ap (slice_get ys) (let e : n ≡ i = omega (arith, h) in e)
  get_right (x ∷ xs) ys zero i h = absurd (omega (arith, h))
  get_right (x ∷ xs) ys (suc n) i h = get_right xs ys n i (omega (arith, h))

  pub get_last : (xs : List A) (x : A) (n : ℕ) → n ≡ length xs → slice_get (xs ++ x ∷ []) n ≡ Some x
  get_last xs x n h = get_right xs (x ∷ []) n 0 (omega (arith, h))

  pub get_within : (xs : List A) (i : ℕ) (x : A) → slice_get xs i ≡ Some x → i < length xs
  get_within [] i x h = absurd (no_some h)
  get_within (y ∷ xs) zero x h = omega arith
  get_within (y ∷ xs) (suc i) x h = omega (arith, get_within xs i x h)

  -- a place within has an item
  pub get_there : (xs : List A) (i : ℕ) → i < length xs → (x : A) × (slice_get xs i ≡ Some x)
  get_there [] i h = absurd (omega (arith, h))
  get_there (x ∷ xs) zero h = (x, refl)
  get_there (x ∷ xs) (suc i) h = get_there xs i (omega (arith, h))

  pub set_here : (xs : List A) (i : ℕ) (x : A) → i < length xs → slice_get (slice_set xs i x) i ≡ Some x
  set_here [] i x h = absurd (omega (arith, h))
  set_here (y ∷ xs) zero x h = refl
  set_here (y ∷ xs) (suc i) x h = set_here xs i x (omega (arith, h))

  pub set_there : (xs : List A) (i j : ℕ) (x : A) → i ≢ j → slice_get (slice_set xs i x) j ≡ slice_get xs j
  set_there [] i j x h = refl
  set_there (y ∷ xs) zero zero x h = absurd (h refl)
  set_there (y ∷ xs) zero (suc j) x h = refl
  set_there (y ∷ xs) (suc i) zero x h = refl
  set_there (y ∷ xs) (suc i) (suc j) x h = set_there xs i j x (λ e. h (ap suc e))

  pub get_replicate : (n i : ℕ) (x y : A) → slice_get (replicate n x) i ≡ Some y → x ≡ y
  get_replicate zero i x y h = absurd (no_some h)
  get_replicate (suc n) zero x y h = same_some h
  get_replicate (suc n) (suc i) x y h = get_replicate n i x y h

-- ---- what is among a list

pub among_left : (d : ℕ) (xs ys : List ℕ) → Among d xs → Among d (xs ++ ys)
among_left d [] ys there = absurd there
among_left d (x ∷ xs) ys (inl e) = inl e
among_left d (x ∷ xs) ys (inr there) = inr (among_left d xs ys there)

pub among_last : (d : ℕ) (xs : List ℕ) (x : ℕ) → x ≡ d → Among d (xs ++ x ∷ [])
among_last d [] x e = inl e
among_last d (y ∷ xs) x e = inr (among_last d xs x e)

pub among_either : (d : ℕ) (xs : List ℕ) (x : ℕ) → Among d (xs ++ x ∷ []) → Among d xs ⊎ (x ≡ d)
among_either d [] x (inl e) = inr e
among_either d [] x (inr there) = absurd there
among_either d (y ∷ xs) x (inl e) = inl (inl e)
among_either d (y ∷ xs) x (inr there) = by (among_either d xs x there)
  where
    by : Among d xs ⊎ (x ≡ d) → Among d (y ∷ xs) ⊎ (x ≡ d)
    by (inl here) = inl (inr here)
    by (inr e) = inr e

pub get_among : (xs : List ℕ) (i d : ℕ) → slice_get xs i ≡ Some d → Among d xs
get_among [] i d h = absurd (no_some h)
get_among (x ∷ xs) zero d h = inl (same_some h)
get_among (x ∷ xs) (suc i) d h = inr (get_among xs i d h)

any_at : (s t : Bool) → t ≡ true → (s || t) ≡ true
any_at true t e = refl
any_at false t e = e

pub any_among : (d : ℕ) (xs : List ℕ) → Among d xs → list_any (λ b. b == d) xs ≡ true
any_among d [] there = absurd there
any_among d (x ∷ xs) (inl e) = ap (λ t. t || list_any (λ b. b == d) xs) (same_is x d e)
any_among d (x ∷ xs) (inr there) = any_at (x == d) (list_any (λ b. b == d) xs) (any_among d xs there)

pub among_any : (d : ℕ) (xs : List ℕ) → list_any (λ b. b == d) xs ≡ true → Among d xs
among_any d [] e = absurd (not_true e)
among_any d (x ∷ xs) e = elim (eqb_tells x d) [
  | inl t ↦ inl t.1
  | inr t ↦ inr (among_any d xs (sym (ap (λ s. s || list_any (λ b. b == d) xs) t.0) ∙ e))
]

-- ---- the structs of classes

pub laid_here : (all : List (Option Laid)) (c : ℕ) (l : Laid) → c < length all → laid_in (slice_set all c (Some l)) c ≡ Some l
laid_here [] c l h = absurd (omega (arith, h))
laid_here (x ∷ all) zero l h = refl
laid_here (x ∷ all) (suc c) l h = laid_here all c l (omega (arith, h))

pub laid_there : (all : List (Option Laid)) (c d : ℕ) (l : Option Laid) → c ≢ d → laid_in (slice_set all c l) d ≡ laid_in all d
laid_there [] c d l h = refl
laid_there (x ∷ all) zero zero l h = absurd (h refl)
laid_there (x ∷ all) zero (suc d) l h = refl
laid_there (x ∷ all) (suc c) zero l h = refl
laid_there (x ∷ all) (suc c) (suc d) l h = laid_there all c d l (λ e. h (ap suc e))

pub laid_within : (all : List (Option Laid)) (c : ℕ) (l : Laid) → laid_in all c ≡ Some l → c < length all
laid_within [] c l h = absurd (no_some h)
laid_within (x ∷ all) zero l h = omega arith
laid_within (x ∷ all) (suc c) l h = omega (arith, laid_within all c l h)

pub none_laid : (n c : ℕ) → laid_in (replicate n None) c ≡ None
none_laid zero c = refl
none_laid (suc n) zero = refl
none_laid (suc n) (suc c) = none_laid n c
