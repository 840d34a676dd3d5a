-- The last of a list is the first of its reverse.
use Rattle.std.proofs.Common.{◌≡◌, ℕ, ◌-◌, List, [], ◌∷◌, ◌++◌, length, reverse, Some, refl, sym, ap, ◌∙◌, arith, length-append}
use Rattle.std.proofs.Math.Seq.{get_or-append_seam}
use Rattle.std.proofs.lemmas.List.{reverse-append, reverse-reverse, length-reverse}
use Rattle.std.proofs.lemmas.Option.{slice_get-get_or}
use Rattle.std.specs.List.{slice_get}
use Rattle.rpy_token.specs.Stack.{first}

last_is : (l : List ℕ) (y : ℕ) → slice_get (l ++ y ∷ []) (length (l ++ y ∷ []) - 1) ≡ Some y
last_is l y =
    let size : length (l ++ y ∷ []) - 1 ≡ length l = omega (arith, length-append l (y ∷ [])) in
    ap (slice_get (l ++ y ∷ [])) size
    ∙ slice_get-get_or (l ++ y ∷ []) (length l) 0 (omega (arith, length-append l (y ∷ [])))
    ∙ ap (λ v. Some v) (get_or-append_seam l y [] 0)

first_is : (ys : List ℕ) → slice_get (reverse ys) (length (reverse ys) - 1) ≡ first ys
first_is [] = refl
first_is (y ∷ zs) = ap (λ l. slice_get l (length l - 1)) (reverse-append (y ∷ []) zs) ∙ last_is (reverse zs) y

pub last_reverse : (xs : List ℕ) → slice_get xs (length xs - 1) ≡ first (reverse xs)
last_reverse xs = ap (λ l. slice_get l (length l - 1)) (sym (reverse-reverse xs)) ∙ first_is (reverse xs)

pub reverse_push : (xs : List ℕ) (x : ℕ) → reverse (xs ++ x ∷ []) ≡ x ∷ reverse xs
reverse_push xs x = reverse-append xs (x ∷ [])

pub reverse_length : (xs : List ℕ) → length (reverse xs) ≡ length xs
reverse_length xs = length-reverse xs
