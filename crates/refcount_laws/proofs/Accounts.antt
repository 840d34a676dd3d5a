-- What variables own across an operation and across an exit.
use Rattle.std.proofs.Common.{◌≡◌, ◌≢◌, ⊎_elim, ◌<◌, ℕ, suc, ◌+◌, Bool, true, false, not, ◌&&◌, ◌||◌, List, [], ◌∷◌, ◌++◌, length, Option, Some, None, refl, sym, ap, ◌∙◌, subst, arith}
use Rattle.std.specs.Prelude.{◌==◌, slice_set, is_some}
use Rattle.csub_tree.specs.State.{Value, Unset}
use Rattle.csub_tree.specs.Statement.{read}
use Rattle.csub_tree.specs.declared.tree.COperand.{COperand}
use Rattle.csub_tree.specs.declared.tree.COperand.TheVariants.{Var, Const}
use Rattle.ll_code.specs.declared.program.LlOp.{LlOp}
use Rattle.ll_code.specs.declared.program.LlExit.{LlExit}
use Rattle.ll_live.specs.Live.{among, variables_in, reads, set_by, sets, live}
use Rattle.ll_held.specs.Roots.{kept}
use Rattle.refcount_transform.specs.Changes.{Around, var_referred, variable_set, touched}
use Rattle.refcount_laws.specs.Ghost.{hit, occurs}
use Rattle.refcount_laws.specs.Owned.{owns, owned, hits_by, operand_hits, all_hits, given_hits_if, given_hits}
use Rattle.refcount_laws.proofs.Cells.{set_here, set_length}
use Rattle.refcount_laws.proofs.Touching.{is_or_not}
use Rattle.refcount_laws.proofs.Owning.{kept_set, owned_same, owned_plain, owned_one}
use Rattle.refcount_laws.proofs.Dead.{same_is, differ_is}

pub among_both : (v : ℕ) (xs ys : List ℕ) → among v (xs ++ ys) ≡ (among v xs || among v ys)
among_both v [] ys = refl
among_both v (x ∷ xs) ys = ap (λ b. (x == v) || b) (among_both v xs ys) ∙ assoc (x == v) (among v xs) (among v ys)
  where
    assoc : (a b c : Bool) → (a || (b || c)) ≡ ((a || b) || c)
    assoc true b c = refl
    assoc false b c = refl

-- what is used behind an operation, with what it reads and sets
abbrev pub used_by : LlOp → List LlOp → LlExit → ℕ → Bool
used_by o ops e w = live ops e w || among w (touched o)

module _ (around : Around) (o : LlOp) (ops : List LlOp) (e : LlExit) where
  pub effect_used : set_by o ≡ None → (w : ℕ) → live (o ∷ ops) e w ≡ used_by o ops e w
  effect_used none w =
      ap (λ s. among w (reads o) || (not (sets s w) && live ops e w)) none ∙ swap (among w (reads o)) (live ops e w)
      ∙ ap (λ b. live ops e w || b) (sym (among_both w (reads o) (variable_set (set_by o)) ∙ ap (λ s. among w (reads o) || among w (variable_set s)) none))
    where
      swap : (a b : Bool) → (a || (not false && b)) ≡ (b || (a || false))
      swap true true = refl
      swap true false = refl
      swap false true = refl
      swap false false = refl

  -- an operation that sets nothing
  pub effect_owned : (vars : List Value) (r : Value) → set_by o ≡ None → owned around (live (o ∷ ops) e) vars r ≡ owned around (used_by o ops e) vars r
  effect_owned vars r none = owned_same around (live (o ∷ ops) e) (used_by o ops e) vars r (λ w. effect_used none w)

  module _ (a : ℕ) (is : set_by o ≡ Some a) where
    pub others : (w : ℕ) → w ≢ a → used_by o ops e w ≡ live (o ∷ ops) e w
    others w ne =
        ap (λ b. live ops e w || b) (among_both w (reads o) (variable_set (set_by o)) ∙ ap (λ s. among w (reads o) || among w (variable_set s)) is ∙ ap (λ b. among w (reads o) || (b || false)) (differ_is a w (λ q. ne (sym q))))
        ∙ swap (live ops e w) (among w (reads o)) ∙ sym (ap (λ s. among w (reads o) || (not (sets s w) && live ops e w)) is ∙ ap (λ b. among w (reads o) || (not b && live ops e w)) (differ_is a w (λ q. ne (sym q))))
      where
        swap : (b c : Bool) → (b || (c || (false || false))) ≡ (c || (not false && b))
        swap true true = refl
        swap true false = refl
        swap false true = refl
        swap false false = refl

    there : used_by o ops e a ≡ true
    there =
        ap (λ b. live ops e a || b) (among_both a (reads o) (variable_set (set_by o)) ∙ ap (λ s. among a (reads o) || among a (variable_set s)) is ∙ ap (λ b. among a (reads o) || (b || false)) (same_is a)) ∙ all_true (live ops e a) (among a (reads o))
      where
        all_true : (b c : Bool) → (b || (c || (true || false))) ≡ true
        all_true true c = refl
        all_true false true = refl
        all_true false false = refl

    -- the variable that is set is not used before, where it is not read
    before : among a (reads o) ≡ false → live (o ∷ ops) e a ≡ false
    before unread = ap (λ s. among a (reads o) || (not (sets s a) && live ops e a)) is ∙ ap (λ b. among a (reads o) || (not b && live ops e a)) (same_is a) ∙ ap (λ b. b || (not true && live ops e a)) unread

    -- an operation that sets a variable: what it holds now comes besides
    pub value_owned : (vars : List Value) (v r : Value) → a < length vars → ((n : ℕ) → var_referred around a ≡ Some n → among a (reads o) ≡ false)
        → hits_by (var_referred around a) v r + owned around (live (o ∷ ops) e) vars r ≡ owned around (used_by o ops e) (slice_set vars a v) r
    value_owned vars v r inside unread = by (var_referred around a) refl
      where
        now : List Value
        now = slice_set vars a v

        unused : owns around (live (o ∷ ops) e) a ≡ false → owned around (live (o ∷ ops) e) now r ≡ owned around (live (o ∷ ops) e) vars r
        unused h = ap (occurs r) (kept_set (owns around (live (o ∷ ops) e)) 0 a vars v (ap (owns around (live (o ∷ ops) e)) (let z : 0 + a ≡ a = omega arith in z) ∙ h))

        neither : (b : Bool) → (b && false) ≡ false
        neither true = refl
        neither false = refl

        by : (k : Option ℕ) → var_referred around a ≡ k → hits_by k v r + owned around (live (o ∷ ops) e) vars r ≡ owned around (used_by o ops e) (slice_set vars a v) r
        by None f =
            let z : 0 + owned around (live (o ∷ ops) e) vars r ≡ owned around (live (o ∷ ops) e) vars r = omega arith in
            z ∙ sym (unused (ap (λ k. live (o ∷ ops) e a && is_some k) f ∙ neither (live (o ∷ ops) e a))) ∙ sym (owned_plain around (used_by o ops e) (live (o ∷ ops) e) a (slice_set vars a v) r f others)
        by (Some n) f =
            let off : live (o ∷ ops) e a ≡ false = before (unread n f) in
            let one : owned around (used_by o ops e) (slice_set vars a v) r ≡ hit r (read (slice_set vars a v) a) + owned around (live (o ∷ ops) e) (slice_set vars a v) r =
            owned_one around (used_by o ops e) (live (o ∷ ops) e) a n (slice_set vars a v) r (omega (arith, set_length vars a v, inside)) f there off others in
            ap (λ k. hit r v + k) (sym (unused (ap (λ b. b && is_some (var_referred around a)) off))) ∙ ap (λ x. hit r x + owned around (live (o ∷ ops) e) (slice_set vars a v) r) (sym (set_here vars a v Unset inside)) ∙ sym one

-- ---- exits

-- all that an exit gives: what it counted, and what its variables owned
pub given_owned : (around : Around) (xs : List COperand) (vars : List Value) (r : Value) → ((v n : ℕ) → among v (variables_in xs) ≡ true → var_referred around v ≡ Some n → v < length vars)
    → given_hits around vars xs r + owned around (λ w. among w (variables_in xs)) vars r ≡ all_hits around vars xs r
given_owned around [] vars r inside = nothing (λ w. false) 0 vars
  where
    nothing : (f : ℕ → Bool) (n : ℕ) (vars : List Value) → 0 + occurs r (kept (owns around (λ w. false)) n vars) ≡ 0
    nothing f n [] = omega arith
    nothing f n (x ∷ vars) = nothing f (suc n) vars
given_owned around (Const k ∷ xs) vars r inside = omega (arith, given_owned around xs vars r inside)
given_owned around (Var v ∷ xs) vars r inside = by (among v (variables_in xs)) refl (given_owned around xs vars r (λ w n h e. inside w n (later w h) e))
  where
    later : (w : ℕ) → among w (variables_in xs) ≡ true → among w (v ∷ variables_in xs) ≡ true
    later w h = ap (λ b. (v == w) || b) h ∙ all (v == w)
      where
        all : (b : Bool) → (b || true) ≡ true
        all true = refl
        all false = refl

    first : among v (v ∷ variables_in xs) ≡ true
    first = ap (λ b. b || among v (variables_in xs)) (same_is v)

    others : (w : ℕ) → w ≢ v → among w (v ∷ variables_in xs) ≡ among w (variables_in xs)
    others w ne = ap (λ b. b || among w (variables_in xs)) (differ_is v w (λ q. ne (sym q)))

    by : (y : Bool) → among v (variables_in xs) ≡ y → given_hits around vars xs r + owned around (λ w. among w (variables_in xs)) vars r ≡ all_hits around vars xs r
        → given_hits_if y around vars (Var v) r + given_hits around vars xs r + owned around (λ w. among w (v ∷ variables_in xs)) vars r ≡ operand_hits around vars (Var v) r + all_hits around vars xs r
    by true y ih =
        let same : owned around (λ w. among w (v ∷ variables_in xs)) vars r ≡ owned around (λ w. among w (variables_in xs)) vars r =
        owned_same around (λ w. among w (v ∷ variables_in xs)) (λ w. among w (variables_in xs)) vars r (λ w. ⊎_elim (λ q. subst (λ w. among w (v ∷ variables_in xs) ≡ among w (variables_in xs)) q (first ∙ sym y)) (λ ne. others w (λ q. ne (sym q))) (is_or_not v w)) in
        omega (arith, ih, same)
    by false y ih = one (var_referred around v) refl
      where
        one : (k : Option ℕ) → var_referred around v ≡ k → 0 + given_hits around vars xs r + owned around (λ w. among w (v ∷ variables_in xs)) vars r ≡ hits_by k (read vars v) r + all_hits around vars xs r
        one None f = omega (arith, ih, owned_plain around (λ w. among w (v ∷ variables_in xs)) (λ w. among w (variables_in xs)) v vars r f others)
        one (Some n) f = omega (arith, ih, owned_one around (λ w. among w (v ∷ variables_in xs)) (λ w. among w (variables_in xs)) v n vars r (inside v n first f) f first y others)
