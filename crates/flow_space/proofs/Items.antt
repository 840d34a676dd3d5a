-- What a pattern of a slice says of it, and results.
use Rattle.std.proofs.Common.{◌≡◌, Bool, ℕ, ◌<◌, ◌≤◌, List, [], ◌∷◌, length, get_or, drop, take, ◌-◌, refl, sym, ap, ◌∙◌, arith}
use Rattle.std.specs.Prelude.{◌||◌, ◌&&◌}

pub one_item : {A : Type 0} (xs : List A) (a : A) → 1 ≤ length xs → length xs < 2 → a ≡ get_or xs 0 a → xs ≡ a ∷ []
one_item {A = A} [] a le lt e = absurd (omega arith)
one_item {A = A} (x ∷ []) a le lt e = ap (λ (y : A). y ∷ []) (sym e)
one_item {A = A} (x ∷ y ∷ xs) a le lt e = absurd (omega arith)

pub two_items : {A : Type 0} (xs : List A) (a b : A) → 2 ≤ length xs → length xs < 3 → a ≡ get_or xs 0 a → b ≡ get_or xs 1 b → xs ≡ a ∷ b ∷ []
two_items {A = A} [] a b le lt e f = absurd (omega arith)
two_items {A = A} (x ∷ []) a b le lt e f = absurd (omega arith)
two_items {A = A} (x ∷ y ∷ []) a b le lt e f = ap (λ (u : A). u ∷ y ∷ []) (sym e) ∙ ap (λ (u : A). a ∷ u ∷ []) (sym f)
two_items {A = A} (x ∷ y ∷ z ∷ xs) a b le lt e f = absurd (omega arith)

pub take_all : {A : Type 0} (xs : List A) → take (length xs) xs ≡ xs
take_all [] = refl
take_all {A = A} (x ∷ xs) = ap (λ (u : List A). x ∷ u) (take_all xs)

pub first_rest : {A : Type 0} (xs : List A) (a : A) → 1 ≤ length xs → a ≡ get_or xs 0 a → xs ≡ a ∷ take (length xs - 1) (drop 1 xs)
first_rest {A = A} [] a le e = absurd (omega arith)
first_rest {A = A} (x ∷ xs) a le e =
    let n : length (x ∷ xs) - 1 ≡ length xs = omega arith in
    ap (λ (u : A). u ∷ xs) (sym e) ∙ ap (λ (u : List A). a ∷ u) (sym (ap (λ (k : ℕ). take k xs) n ∙ take_all xs))

pub head_rest : {A : Type 0} (xs : List A) (a : A) → 1 ≤ length xs → xs ≡ get_or xs 0 a ∷ take (length xs - 1) (drop 1 xs)
head_rest [] a le = absurd (omega arith)
head_rest (x ∷ xs) a le = first_rest (x ∷ xs) x le refl

pub rest_is : {A : Type 0} (xs : List A) → 2 ≤ length xs → (u : A) × (us : List A) × (take (length xs - 1) (drop 1 xs) ≡ u ∷ us)
rest_is {A = A} [] le = absurd (omega arith)
rest_is {A = A} (x ∷ []) le = absurd (omega arith)
rest_is {A = A} (x ∷ u ∷ us) le =
    let n : length (x ∷ u ∷ us) - 1 ≡ length (u ∷ us) = omega arith in
    (u, us, ap (λ (k : ℕ). take k (u ∷ us)) n ∙ take_all (u ∷ us))

pub none_of : {A : Type 0} (xs : List A) → length xs < 1 → xs ≡ []
none_of [] lt = refl
none_of (x ∷ xs) lt = absurd (omega arith)

pub both_are : {a b c d : Bool} → a ≡ c → b ≡ d → (a && b) ≡ (c && d)
both_are x y = λ i. x i && y i

pub either_is : {a b c d : Bool} → a ≡ c → b ≡ d → (a || b) ≡ (c || d)
either_is x y = λ i. x i || y i
