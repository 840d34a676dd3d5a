-- The references that variables own, one more and one less.
use Rattle.std.proofs.Common.{◌≡◌, ◌≢◌, ◌⊎◌, inl, inr, ◌<◌, ◌≤◌, ℕ, zero, suc, ◌+◌, Bool, true, false, ◌&&◌, List, [], ◌∷◌, length, Some, None, refl, sym, ap, ◌∙◌, arith}
use Rattle.std.specs.Prelude.{cond, is_some, slice_set}
use Rattle.csub_tree.specs.State.{Value}
use Rattle.csub_tree.specs.Statement.{read}
use Rattle.ll_held.specs.Roots.{kept}
use Rattle.refcount_transform.specs.Changes.{Around, var_referred}
use Rattle.refcount_laws.specs.Ghost.{hit, occurs}
use Rattle.refcount_laws.specs.Owned.{owns, owned}
use Rattle.refcount_laws.proofs.Touching.{is_or_not}

pub kept_same : (f g : ℕ → Bool) (n : ℕ) (vars : List Value) → ((v : ℕ) → f v ≡ g v) → kept f n vars ≡ kept g n vars
kept_same f g n [] e = refl
kept_same f g n (x ∷ vars) e =
    ap (λ b. cond b (x ∷ kept f (suc n) vars) (kept f (suc n) vars)) (e n) ∙ ap (λ l. cond (g n) (x ∷ l) l) (kept_same f g (suc n) vars e)

-- where they agree from n on
kept_same_from : (f g : ℕ → Bool) (n : ℕ) (vars : List Value) → ((v : ℕ) → n ≤ v → f v ≡ g v) → kept f n vars ≡ kept g n vars
kept_same_from f g n [] e = refl
kept_same_from f g n (x ∷ vars) e =
    ap (λ b. cond b (x ∷ kept f (suc n) vars) (kept f (suc n) vars)) (e n (omega arith)) ∙ ap (λ l. cond (g n) (x ∷ l) l) (kept_same_from f g (suc n) vars (λ v le. e v (omega (arith, le))))

occurs_cond : (r x : Value) (b : Bool) (l m : List Value) (k : ℕ) → occurs r l ≡ k + occurs r m → occurs r (cond b (x ∷ l) l) ≡ k + occurs r (cond b (x ∷ m) m)
occurs_cond r x true l m k e = omega (arith, e)
occurs_cond r x false l m k e = e

-- one variable more
kept_one : (f g : ℕ → Bool) (n i : ℕ) (vars : List Value) (r : Value) → i < length vars → f (n + i) ≡ true → g (n + i) ≡ false → ((w : ℕ) → w ≢ n + i → f w ≡ g w) → occurs r (kept f n vars) ≡ hit r (read vars i) + occurs r (kept g n vars)
kept_one f g n i [] r lt used unused e = absurd (omega (arith, lt))
kept_one f g n zero (x ∷ vars) r lt used unused e =
    let z : n + 0 ≡ n = omega arith in
    let rest : kept f (suc n) vars ≡ kept g (suc n) vars = kept_same_from f g (suc n) vars (λ v le. e v (λ q. absurd (omega (arith, q, le)))) in
    ap (λ b. occurs r (cond b (x ∷ kept f (suc n) vars) (kept f (suc n) vars))) (ap f (sym z) ∙ used) ∙ ap (λ l. hit r x + occurs r l) rest
    ∙ ap (λ b. hit r x + occurs r (cond b (x ∷ kept g (suc n) vars) (kept g (suc n) vars))) (sym (ap g (sym z) ∙ unused))
kept_one f g n (suc i) (x ∷ vars) r lt used unused e =
    let z : suc n + i ≡ n + suc i = omega arith in
    ap (λ b. occurs r (cond b (x ∷ kept f (suc n) vars) (kept f (suc n) vars))) (e n (λ q. absurd (omega (arith, q))))
    ∙ occurs_cond r x (g n) (kept f (suc n) vars) (kept g (suc n) vars) (hit r (read vars i)) (kept_one f g (suc n) i vars r (omega (arith, lt)) (ap f z ∙ used) (ap g z ∙ unused) (λ w ne. e w (λ q. ne (q ∙ sym z))))

-- a variable that unused one uses may change
pub kept_set : (f : ℕ → Bool) (n i : ℕ) (vars : List Value) (x : Value) → f (n + i) ≡ false → kept f n (slice_set vars i x) ≡ kept f n vars
kept_set f n i [] x unused = refl
kept_set f n zero (y ∷ vars) x unused =
    let z : f n ≡ false = ap f (let e : n ≡ n + 0 = omega arith in e) ∙ unused in ap (λ b. cond b (x ∷ kept f (suc n) vars) (kept f (suc n) vars)) z ∙ sym (ap (λ b. cond b (y ∷ kept f (suc n) vars) (kept f (suc n) vars)) z)
kept_set f n (suc i) (y ∷ vars) x unused = ap (λ l. cond (f n) (y ∷ l) l) (kept_set f (suc n) i vars x (ap f (let e : suc n + i ≡ n + suc i = omega arith in e) ∙ unused))

module _ (around : Around) where
  pub owned_same : (f g : ℕ → Bool) (vars : List Value) (r : Value) → ((v : ℕ) → f v ≡ g v) → owned around f vars r ≡ owned around g vars r
  owned_same f g vars r e = ap (occurs r) (kept_same (owns around f) (owns around g) 0 vars (λ v. ap (λ b. b && is_some (var_referred around v)) (e v)))

  -- a variable that refers to nothing that is counted
  pub owned_plain : (f g : ℕ → Bool) (v : ℕ) (vars : List Value) (r : Value) → var_referred around v ≡ None → ((w : ℕ) → w ≢ v → f w ≡ g w) → owned around f vars r ≡ owned around g vars r
  owned_plain f g v vars r e same = ap (occurs r) (kept_same (owns around f) (owns around g) 0 vars (λ w. by w (is_or_not v w)))
    where
      neither : (b : Bool) → (b && false) ≡ false
      neither true = refl
      neither false = refl

      by : (w : ℕ) → (v ≡ w) ⊎ (v ≢ w) → owns around f w ≡ owns around g w
      by w (inl q) =
          let z : is_some (var_referred around w) ≡ false = ap (λ w. is_some (var_referred around w)) (sym q) ∙ ap is_some e in
          ap (λ b. f w && b) z ∙ neither (f w) ∙ sym (ap (λ b. g w && b) z ∙ neither (g w))
      by w (inr ne) = ap (λ b. b && is_some (var_referred around w)) (same w (λ q. ne (sym q)))

  -- one that does
  pub owned_one : (f g : ℕ → Bool) (v n : ℕ) (vars : List Value) (r : Value) → v < length vars → var_referred around v ≡ Some n → f v ≡ true → g v ≡ false → ((w : ℕ) → w ≢ v → f w ≡ g w) → owned around f vars r ≡ hit r (read vars v) + owned around g vars r
  owned_one f g v n vars r lt e used unused same =
      let z : 0 + v ≡ v = omega arith in
      kept_one (owns around f) (owns around g) 0 v vars r lt
      (ap (owns around f) z ∙ ap (λ b. b && is_some (var_referred around v)) used ∙ ap is_some e) (ap (owns around g) z ∙ ap (λ b. b && is_some (var_referred around v)) unused)
      (λ w ne. ap (λ b. b && is_some (var_referred around w)) (same w (λ q. ne (q ∙ sym z))))
