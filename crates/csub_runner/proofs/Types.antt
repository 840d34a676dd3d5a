-- Lists of types, from a place on.
use Rattle.std.proofs.Common.{◌≡◌, ℕ, zero, suc, ◌+◌, ◌<◌, ◌≤◌, List, [], ◌∷◌, length, drop, get_or, refl, ap, ◌∙◌, arith, ◌&&◌, Bool, true, false, ◌==◌}
use Rattle.std.proofs.lemmas.Bool.Decides.{nat_tests}
use Rattle.csub_tree.specs.Statement.{same_type, same_types}
use Rattle.csub_tree.specs.declared.tree.CType.{CType}
use Rattle.csub_runner.proofs.Erasing.{drop_at}

pub types_step : (ss ts : List CType) (i : ℕ) (d e : CType) → i < length ss → i < length ts
    → same_types (drop i ss) (drop i ts) ≡ (same_type (get_or ss i d) (get_or ts i e) && same_types (drop (i + 1) ss) (drop (i + 1) ts))
types_step ss ts i d e lt lu = ap (λ xs. same_types xs (drop i ts)) (drop_at ss i d lt) ∙ ap (same_types (get_or ss i d ∷ drop (i + 1) ss)) (drop_at ts i e lu)

pub types_short : (ss ts : List CType) (i : ℕ) → i < length ss → length ts ≤ i → same_types (drop i ss) (drop i ts) ≡ false
types_short [] ts i lt le = absurd (omega (arith, lt))
types_short (s ∷ ss) [] zero lt le = refl
types_short (s ∷ ss) (t ∷ ts) zero lt le = absurd (omega (arith, le))
types_short (s ∷ ss) [] (suc i) lt le = short_nil ss i (omega (arith, lt))
  where
    short_nil : (ss : List CType) (i : ℕ) → i < length ss → same_types (drop i ss) [] ≡ false
    short_nil [] i lt = absurd (omega (arith, lt))
    short_nil (s ∷ ss) zero lt = refl
    short_nil (s ∷ ss) (suc i) lt = short_nil ss i (omega (arith, lt))
types_short (s ∷ ss) (t ∷ ts) (suc i) lt le = types_short ss ts i (omega (arith, lt)) (omega (arith, le))

pub types_end : (ss ts : List CType) (i : ℕ) → length ss ≤ i → i ≤ length ss → i ≤ length ts → (length ss == length ts) ≡ same_types (drop i ss) (drop i ts)
types_end [] [] zero a b h = refl
types_end [] (t ∷ ts) zero a b h = grind (arith, nat_tests)
types_end (s ∷ ss) ts zero a b h = absurd (omega (arith, a))
types_end [] ts (suc i) a b h = absurd (omega (arith, b))
types_end (s ∷ ss) [] (suc i) a b h = absurd (omega (arith, h))
types_end (s ∷ ss) (t ∷ ts) (suc i) a b h = same_suc (length ss) (length ts) ∙ types_end ss ts i (omega (arith, a)) (omega (arith, b)) (omega (arith, h))
  where
    by : (m n : ℕ) (t : Bool) → (m == n) ≡ t → (suc m == suc n) ≡ t
    by m n true e = grind (arith, nat_tests)
    by m n false e = grind (arith, nat_tests)

    same_suc : (m n : ℕ) → (suc m == suc n) ≡ (m == n)
    same_suc m n = by m n (m == n) refl
