-- Places of fields, one after the other.
use Rattle.std.proofs.Common.{◌≡◌, ℕ, zero, suc, ◌+◌, ◌-◌, ◌<◌, Bool, List, [], ◌∷◌, Some, refl, ap, arith}
use Rattle.ll_code.specs.declared.program.LlType.{LlType}
use Rattle.refcount_transform.specs.Plan.{place_behind, references_before, reference_to, one_if}

pub place_behind_base : (m k : ℕ) → place_behind (Some m) k ≡ k - 1
place_behind_base m zero = refl
place_behind_base m (suc k) = omega arith

pub references_first : (counted : List Bool) (k : ℕ) (t : LlType) (ts : List LlType) → 0 < k → references_before counted k (t ∷ ts) ≡ one_if (reference_to counted t) + references_before counted (k - 1) ts
references_first counted zero t ts h = absurd (omega arith)
references_first counted (suc k) t ts h = let e : k ≡ suc k - 1 = omega arith in ap (λ j. one_if (reference_to counted t) + references_before counted j ts) e

pub references_none : (counted : List Bool) (k : ℕ) → references_before counted k [] ≡ 0
references_none counted zero = refl
references_none counted (suc k) = refl

pub references_no : (counted : List Bool) (k : ℕ) (ts : List LlType) → k ≡ 0 → references_before counted k ts ≡ 0
references_no counted k ts e = ap (λ j. references_before counted j ts) e
