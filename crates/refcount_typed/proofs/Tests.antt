-- Tests that hold, and lists that are mapped.
use Rattle.std.proofs.Common.{◌≡◌, ◌<◌, ℕ, zero, suc, Bool, true, false, ◌&&◌, ◌==◌, List, [], ◌∷◌, length, map, refl, ap, arith}
use Rattle.std.specs.Prelude.{slice_get, nat_lt, option_map}

pub and_both : (a b : Bool) → a ≡ true → b ≡ true → (a && b) ≡ true
and_both true b e f = f
and_both false b e f = absurd (cc)

pub equals : (m n : ℕ) → m ≡ n → (m == n) ≡ true
equals m n e = grind arith

pub is_below : (m n : ℕ) → m < n → nat_lt m n ≡ true
is_below m n e = grind arith

pub length_map : {A B : Type 0} (f : A → B) (xs : List A) → length (map f xs) ≡ length xs
length_map f [] = refl
length_map f (x ∷ xs) = ap suc (length_map f xs)

pub get_map : {A B : Type 0} (f : A → B) (xs : List A) (n : ℕ) → slice_get (map f xs) n ≡ option_map f (slice_get xs n)
get_map f [] n = refl
get_map f (x ∷ xs) zero = refl
get_map f (x ∷ xs) (suc n) = get_map f xs n
