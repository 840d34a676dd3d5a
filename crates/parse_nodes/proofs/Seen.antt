-- How many of the nodes so far have a number: one at most, up to 2^32 nodes.
use Rattle.std.proofs.Common.{◌≡◌, ℕ, zero, suc, ◌+◌, ◌%◌, ◌≤◌, ◌==◌, Bool, true, false, [], ◌∷◌, ◌++◌, length, refl, ap, arith, length-append}
use Rattle.std.proofs.lemmas.Bool.{eqb-true}
use Rattle.rpy_parse.specs.Build.{Lines, more}
use Rattle.resolver_names.specs.Nodes.{one_if, node_at}

module _ (k : ℕ) where
  -- how many of the nodes before this one have the number
  pub before : ℕ → ℕ
  before zero = 0
  before (suc n) = before n + node_at k 0 n

  pub before_none : before 0 ≡ 0
  unfolding before
  before_none = refl

  pub before_next : (n : ℕ) → before (suc n) ≡ before n + node_at k 0 n
  unfolding before
  before_next n = refl

  -- the same for the next node of a state
  pub seen : Lines → ℕ
  seen n = before (length n)

  pub seen_is : (n : Lines) → seen n ≡ before (length n)
  unfolding seen
  seen_is n = refl

  pub seen_more : (n : Lines) (l : ℕ) → seen (more n l) ≡ seen n + node_at k 0 (length n)
  unfolding seen before
  seen_more n l =
      let h = length-append n (l ∷ []) in
      let e : length (n ++ l ∷ []) ≡ suc (length n) = omega (arith, h) in
      ap before e

-- no number is given twice
pub once : (k n : ℕ) → n ≤ 4294967296 → (before k n ≤ 1) × (n ≤ k → before k n ≡ 0)
once k zero fits = let e = before_none k in (omega (arith, e), λ le. e)
once k (suc n) fits = by ((0 + n) % 4294967296 == k) refl (once k n (omega (arith, fits)))
  where
    by : (b : Bool) → ((0 + n) % 4294967296 == k) ≡ b
        → (before k n ≤ 1) × (n ≤ k → before k n ≡ 0) → (before k (suc n) ≤ 1) × (suc n ≤ k → before k (suc n) ≡ 0)
    by true is h =
        let e = eqb-true ((0 + n) % 4294967296) k is in
        let here : node_at k 0 n ≡ 1 = ap one_if is in
        let z = h.1 (omega (arith, e, fits)) in
        let next = before_next k n in
        (omega (arith, next, here, z), λ le. absurd (omega (arith, le, e, fits)))
    by false is h =
        let here : node_at k 0 n ≡ 0 = ap one_if is in
        let next = before_next k n in
        (omega (arith, next, here, h.0), λ le. let z = h.1 (omega (arith, le)) in omega (arith, next, here, z))
