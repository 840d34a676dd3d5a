-- Blocks that are pushed behind others.
use Rattle.std.proofs.Common.{◌≡◌, ℕ, ◌+◌, List, [], ◌∷◌, ◌++◌, length, reverse, sym, ap, ◌∙◌, arith, append_assoc}
use Rattle.std.proofs.lemmas.List.{reverse-append}

length_both : {A : Type 0} (xs ys : List A) → length (xs ++ ys) ≡ length xs + length ys
length_both [] ys = omega arith
length_both (x ∷ xs) ys = let e : length (xs ++ ys) ≡ length xs + length ys = length_both xs ys in omega (arith, e)

-- one more is pushed, and the numbers go on behind it
pub pushed_one : {A : Type 0} (xs : List A) (x : A) (first : ℕ) → first + length (xs ++ x ∷ []) ≡ first + length xs + 1
pushed_one xs x first = let e : length (xs ++ x ∷ []) ≡ length xs + 1 = length_both xs (x ∷ []) in omega (arith, e)

pub pushed_two : {A : Type 0} (f : ℕ → List A) (xs : List A) (x y : A) (first : ℕ) → ((xs ++ x ∷ []) ++ y ∷ []) ++ f (first + length ((xs ++ x ∷ []) ++ y ∷ [])) ≡ xs ++ x ∷ y ∷ f (first + length xs + 2)
pushed_two f xs x y first =
    let a : length (xs ++ x ∷ []) ≡ length xs + 1 = length_both xs (x ∷ []) in
    let b : length ((xs ++ x ∷ []) ++ y ∷ []) ≡ length (xs ++ x ∷ []) + 1 = length_both (xs ++ x ∷ []) (y ∷ []) in
    let e : first + length ((xs ++ x ∷ []) ++ y ∷ []) ≡ first + length xs + 2 = omega (arith, a, b) in
    ap (λ k. ((xs ++ x ∷ []) ++ y ∷ []) ++ f k) e ∙ append_assoc (xs ++ x ∷ []) (y ∷ []) (f (first + length xs + 2)) ∙ append_assoc xs (x ∷ []) (y ∷ f (first + length xs + 2))

-- the last block of what is left stands first in the other order
pub last_first : {A : Type 0} (made left : List A) (x : A) → (made ++ x ∷ []) ++ reverse left ≡ made ++ reverse (left ++ x ∷ [])
last_first made left x = append_assoc made (x ∷ []) (reverse left) ∙ ap (λ l. made ++ l) (sym (reverse-append left (x ∷ [])))
