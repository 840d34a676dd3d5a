-- Lists.
use Rattle.std.proofs.Common.{◌≡◌, ◌≢◌, ◌<◌, ◌≤◌, ℕ, zero, suc, List, [], ◌∷◌, ◌++◌, length, map, refl, ap, ◌∙◌, arith}
use Rattle.std.specs.Prelude.{slice_set, slice_index_or}

pub set_here : {A : Type 0} (xs : List A) (a : ℕ) (x d : A) → a < length xs → slice_index_or (slice_set xs a x) a d ≡ x
set_here [] a x d lt = absurd (omega (arith, lt))
set_here (y ∷ xs) zero x d lt = refl
set_here (y ∷ xs) (suc a) x d lt = set_here xs a x d (omega (arith, lt))

pub set_other : {A : Type 0} (xs : List A) (a b : ℕ) (x d : A) → a ≢ b → slice_index_or (slice_set xs a x) b d ≡ slice_index_or xs b d
set_other [] a b x d ne = refl
set_other (y ∷ xs) zero zero x d ne = absurd (ne refl)
set_other (y ∷ xs) zero (suc b) x d ne = refl
set_other (y ∷ xs) (suc a) zero x d ne = refl
set_other (y ∷ xs) (suc a) (suc b) x d ne = set_other xs a b x d (λ e. ne (ap suc e))

pub set_length : {A : Type 0} (xs : List A) (a : ℕ) (x : A) → length (slice_set xs a x) ≡ length xs
set_length [] a x = refl
set_length (y ∷ xs) zero x = refl
set_length (y ∷ xs) (suc a) x = ap suc (set_length xs a x)

-- what a place holds is set there again
pub set_again : {A : Type 0} (xs : List A) (a : ℕ) (d : A) → slice_set xs a (slice_index_or xs a d) ≡ xs
set_again [] a d = refl
set_again (y ∷ xs) zero d = refl
set_again (y ∷ xs) (suc a) d = ap (λ l. y ∷ l) (set_again xs a d)

pub past : {A : Type 0} (xs : List A) (a : ℕ) (d : A) → length xs ≤ a → slice_index_or xs a d ≡ d
past [] a d le = refl
past (y ∷ xs) zero d le = absurd (omega (arith, le))
past (y ∷ xs) (suc a) d le = past xs a d (omega (arith, le))

pub map_both : {A B : Type 0} (f : A → B) (xs ys : List A) → map f (xs ++ ys) ≡ map f xs ++ map f ys
map_both f [] ys = refl
map_both f (x ∷ xs) ys = ap (λ l. f x ∷ l) (map_both f xs ys)

pub both_again : {A : Type 0} (xs ys zs : List A) → (xs ++ ys) ++ zs ≡ xs ++ (ys ++ zs)
both_again [] ys zs = refl
both_again (x ∷ xs) ys zs = ap (λ l. x ∷ l) (both_again xs ys zs)

pub none_behind : {A : Type 0} (xs : List A) → xs ++ [] ≡ xs
none_behind [] = refl
none_behind (x ∷ xs) = ap (λ l. x ∷ l) (none_behind xs)

-- lists with the same elements
pub same_lists : {A : Type 0} (d : A) (xs ys : List A) → length xs ≡ length ys → ((a : ℕ) → slice_index_or xs a d ≡ slice_index_or ys a d) → xs ≡ ys
same_lists d [] [] e w = refl
same_lists d [] (y ∷ ys) e w = absurd (omega (arith, e))
same_lists d (x ∷ xs) [] e w = absurd (omega (arith, e))
same_lists d (x ∷ xs) (y ∷ ys) e w = ap (λ z. z ∷ xs) (w 0) ∙ ap (λ l. y ∷ l) (same_lists d xs ys (omega (arith, e)) (λ a. w (suc a)))
