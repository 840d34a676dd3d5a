-- A loop that writes each item of a list anew.
use Rattle.std.proofs.Common.{◌≡◌, ℕ, suc, zero, ◌<◌, ◌++◌, List, [], ◌∷◌, length, map, take, drop, set, get_or, ap, arith, refl}

pub map_step : (f : ℕ → ℕ) (s : List ℕ) (i : ℕ) → i < length s → set (map f (take i s) ++ drop i s) i (f (get_or (map f (take i s) ++ drop i s) i 0)) ≡ map f (take (suc i) s) ++ drop (suc i) s
map_step f [] i h = absurd (omega arith)
map_step f (x ∷ s) zero h = refl
map_step f (x ∷ s) (suc i) h = ap (λ l. f x ∷ l) (map_step f s i (omega arith))
