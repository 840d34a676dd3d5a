-- Lists by places.
use Rattle.std.proofs.Common.{◌≡◌, ℕ, zero, suc, ◌+◌, ◌<◌, ◌≤◌, true, false, List, [], ◌∷◌, ◌++◌, length, get_or, refl, arith, append_assoc, length-append}
use Rattle.std.specs.Prelude.{nat_lt}
use Rattle.std.proofs.lemmas.Bool.{lt-ltb, le-ltb}
use Rattle.flow_stands.specs.Places.{range}

pub is_less : (a b : ℕ) → a < b → nat_lt a b ≡ true
is_less a b h = lt-ltb a b h

pub not_less : (a b : ℕ) → b ≤ a → nat_lt a b ≡ false
not_less a b h = le-ltb a b h

pub get_here : {A : Type 0} (xs : List A) (y : A) (ys : List A) (d : A) → get_or (xs ++ y ∷ ys) (length xs) d ≡ y
get_here [] y ys d = refl
get_here (x ∷ xs) y ys d = get_here xs y ys d

pub get_left : {A : Type 0} (xs ys : List A) (d : A) (i : ℕ) → i < length xs → get_or (xs ++ ys) i d ≡ get_or xs i d
get_left [] ys d i lt = absurd (omega (arith, lt))
get_left (x ∷ xs) ys d zero lt = refl
get_left (x ∷ xs) ys d (suc i) lt = get_left xs ys d i (omega (arith, lt))

pub one_more : {A : Type 0} (xs : List A) (x : A) → length (xs ++ x ∷ []) ≡ length xs + 1
one_more xs x = length-append xs (x ∷ [])

pub push : {A : Type 0} (xs : List A) (x : A) (ys : List A) → (xs ++ x ∷ []) ++ ys ≡ xs ++ x ∷ ys
push xs x ys = append_assoc xs (x ∷ []) ys

pub range_count : (a k : ℕ) → length (range a k) ≡ k
range_count a zero = refl
range_count a (suc k) = omega (arith, range_count (a + 1) k)
