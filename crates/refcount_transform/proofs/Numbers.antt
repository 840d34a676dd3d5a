-- Numbers that are pushed one after the other.
use Rattle.std.proofs.Common.{◌≡◌, ℕ, zero, suc, ◌+◌, ◌-◌, ◌<◌, List, [], ◌∷◌, ◌++◌, sym, ap, ◌∙◌, arith, append_assoc}
use Rattle.refcount_transform.specs.Made.{numbers_from}

numbers_next : (v k : ℕ) → 0 < k → numbers_from v k ≡ v ∷ numbers_from (v + 1) (k - 1)
numbers_next v zero h = absurd (omega (arith, h))
numbers_next v (suc k) h =
    let f : k ≡ suc k - 1 = omega arith in
    let g : suc v ≡ v + 1 = omega arith in
    ap (λ j. v ∷ numbers_from (suc v) j) f ∙ ap (λ j. v ∷ numbers_from j (suc k - 1)) g

pub number_pushed : (v k : ℕ) (l m total : List ℕ) → 0 < k → l ++ numbers_from v k ≡ total → m ≡ l ++ v ∷ [] → m ++ numbers_from (v + 1) (k - 1) ≡ total
number_pushed v k l m total h e f =
    ap (λ x. x ++ numbers_from (v + 1) (k - 1)) f ∙ append_assoc l (v ∷ []) (numbers_from (v + 1) (k - 1)) ∙ ap (λ x. l ++ x) (sym (numbers_next v k h)) ∙ e

pub numbers_done : (v k : ℕ) → k ≡ 0 → numbers_from v k ≡ []
numbers_done v k e = ap (numbers_from v) e
