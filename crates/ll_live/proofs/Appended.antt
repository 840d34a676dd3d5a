-- A variable among the ones of two lists is among those of one of them.
use Rattle.std.proofs.Common.{◌≡◌, ℕ, ◌==◌, ◌||◌, Bool, true, false, List, [], ◌∷◌, ◌++◌, refl}
use Rattle.ll_live.specs.Live.{among}

pub among_append : (v : ℕ) (xs ys : List ℕ) → among v (xs ++ ys) ≡ (among v xs || among v ys)
among_append v [] ys = refl
among_append v (x ∷ xs) ys = one (x == v) (among_append v xs ys)
  where
    one : (b : Bool) → among v (xs ++ ys) ≡ (among v xs || among v ys) → (b || among v (xs ++ ys)) ≡ ((b || among v xs) || among v ys)
    one true e = refl
    one false e = e
