-- Runs of two programs that go together, where the one may take moves that the other leaves out.
use Rattle.std.proofs.Common.{◌≡◌, ◌<◌, ◌≤◌, ℕ, zero, suc, ◌+◌, ◌-◌, Bool, true, false, List, [], ◌∷◌, ◌++◌, Option, Some, None, refl, sym, ap, ◌∙◌, subst, arith, ◌⊎◌, inl, inr}
use Rattle.csub_tree.specs.State.{Event}
use Rattle.ll_code.specs.State.{State, Next, Goes, Puts, Tells, Ends, Sticks}
use Rattle.ll_code.specs.Machine.{step}
use Rattle.ll_code.specs.Meaning.{Came, StuckFor, Ran, Ended, run, follow, Meant, meant_by}
use Rattle.ll_code.specs.declared.program.LlProgram.{LlProgram}

-- some silent steps
pub data Silent (q : LlProgram) (args : List (List ℕ)) : ℕ → State → State → Type 0 where
  Stay : (t : State) → Silent q args 0 t t
  Go : (k : ℕ) (s t u : State) → step q args s ≡ Goes t → Silent q args k t u → Silent q args (suc k) s u

module _ (R : ℕ → State → State → Type 0) where
  abbrev pub Somehow : State → State → Type 0
  Somehow s t = (n : ℕ) × R n s t

  -- both do the same
  abbrev pub SameNext : Next → Next → Type 0
  SameNext (Goes s) (Goes t) = Somehow s t
  SameNext (Puts byte s) (Puts other t) = (other ≡ byte) × Somehow s t
  SameNext (Tells event s) (Tells other t) = (other ≡ event) × Somehow s t
  SameNext (Ends outcome core) (Ends other end) = (other ≡ outcome) × (end.steps ≡ core.steps)
  SameNext (Sticks reason) (Sticks other) = other ≡ reason
  SameNext next other = ⊥

  module _ (p q : LlProgram) (args : List (List ℕ)) where
    -- the first one goes on alone, with fewer such moves before it, or after silent steps of the second; or both do the same
    pub data Moves : ℕ → State → State → Type 0 where
      Alone : (n m k : ℕ) (s t u v : State) → step p args s ≡ Goes u → Silent q args k t v → m < n → R m u v → Moves n s t
      Together : (n : ℕ) (s t : State) → SameNext (step p args s) (step q args t) → Moves n s t

    module _ (moves : (n : ℕ) (s t : State) → R n s t → Moves n s t) (steps : ℕ) (meant : Meant) where
      abbrev Comes : LlProgram → ℕ → State → List ℕ → List Event → Type 0
      Comes r k s text events = meant_by steps (run r args k s text events) ≡ Some meant

      abbrev Ends_so : LlProgram → State → List ℕ → List Event → Type 0
      Ends_so r s text events = (k : ℕ) × Comes r k s text events

      never_now : (r : LlProgram) (s : State) (text : List ℕ) (events : List Event) → Comes r 0 s text events → ⊥
      unfolding run
      never_now r s text events e = absurd (cc)

      -- one step more
      one_more : (r : LlProgram) (k : ℕ) (s : State) (text : List ℕ) (events : List Event) (next : Next) → step r args s ≡ next → run r args (suc k) s text events ≡ follow (run r args k) text events next
      unfolding run
      one_more r k s text events next e = ap (follow (run r args k) text events) e

      -- so many more
      abbrev later : ℕ → ℕ → ℕ
      later zero j = j
      later (suc k) j = suc (later k j)

      after_silent : (k : ℕ) (t u : State) → Silent q args k t u → (j : ℕ) (text : List ℕ) (events : List Event) → run q args (later k j) t text events ≡ run q args j u text events
      after_silent zero t u (Stay v) j text events = refl
      after_silent (suc k) t u (Go i x v y e silent) j text events = one_more q (later k j) t text events (Goes v) e ∙ after_silent k v u silent j text events

      -- there are too few, or some more
      left_over : (i k : ℕ) → (k < i) ⊎ ((j : ℕ) × (later i j ≡ k) × (j ≤ k))
      left_over zero k = inr (k, refl, omega arith)
      left_over (suc i) zero = inl (omega arith)
      left_over (suc i) (suc k) = one (left_over i k)
        where
          one : (k < i) ⊎ ((j : ℕ) × (later i j ≡ k) × (j ≤ k)) → (suc k < suc i) ⊎ ((j : ℕ) × (later (suc i) j ≡ suc k) × (j ≤ suc k))
          one (inl h) = inl (omega (arith, h))
          one (inr (j, e, le)) = inr (j, ap suc e, omega (arith, le))

      too_few : (k j : ℕ) (t u : State) → Silent q args k t u → j < k → (text : List ℕ) (events : List Event) → Comes q j t text events → ⊥
      too_few zero j t u silent lt text events e = absurd (omega (arith, lt))
      too_few (suc k) zero t u silent lt text events e = never_now q t text events e
      too_few (suc k) (suc j) t u (Go i x v y g silent) lt text events e = too_few k j v u silent (omega (arith, lt)) text events (ap (meant_by steps) (sym (one_more q j t text events (Goes v) g)) ∙ e)

      -- ---- onwards

      abbrev Forward : ℕ → Type 0
      Forward k = (n : ℕ) (s t : State) (text : List ℕ) (events : List Event) → R n s t → Comes p k s text events → Ends_so q t text events

      goes_forward : (k : ℕ) → Forward k → (t : State) (text : List ℕ) (events : List Event) (next other : Next) → step q args t ≡ other → SameNext next other → meant_by steps (follow (run p args k) text events next) ≡ Some meant → Ends_so q t text events
      goes_forward k go t text events (Goes s) (Goes u) e (n, r) h = (let j = go n s u text events r h in (suc j.0, ap (meant_by steps) (one_more q j.0 t text events (Goes u) e) ∙ j.1))
      goes_forward k go t text events (Puts byte s) (Puts other u) e (same, (n, r)) h = (let j = go n s u (text ++ byte ∷ []) events r h in (suc j.0, ap (meant_by steps) (one_more q j.0 t text events (Puts byte u) (e ∙ ap (λ b. Puts b u) same)) ∙ j.1))
      goes_forward k go t text events (Tells event s) (Tells other u) e (same, (n, r)) h = (let j = go n s u text (events ++ event ∷ []) r h in (suc j.0, ap (meant_by steps) (one_more q j.0 t text events (Tells event u) (e ∙ ap (λ b. Tells b u) same)) ∙ j.1))
      goes_forward k go t text events (Ends outcome core) (Ends other end) e (same, left) h =
          (1, ap (meant_by steps) (one_more q 0 t text events (Ends other end) e) ∙ ap (λ o. meant_by steps (follow (run q args 0) text events (Ends o end))) same ∙ ap (λ n. meant_by steps (Ended (Came outcome) n text events)) left ∙ h)
      goes_forward k go t text events (Sticks reason) (Sticks other) e same h = (1, ap (meant_by steps) (one_more q 0 t text events (Sticks other) e) ∙ ap (λ o. meant_by steps (Ended (StuckFor o) 0 text events)) same ∙ h)
      goes_forward k go t text events next other e same h = elim same [ ]

      pub forward : (k : ℕ) → Forward k
      forward zero n s t text events r h = absurd (never_now p s text events h)
      forward (suc k) n s t text events r h = by (forward k) (moves n s t r)
        where
          by : Forward k → Moves n s t → Ends_so q t text events
          by go (Alone n2 m i s2 t2 u v e silent lt next) =
              let j = go m u v text events next (ap (meant_by steps) (sym (one_more p k s text events (Goes u) e)) ∙ h) in (later i j.0, ap (meant_by steps) (after_silent i t v silent j.0 text events) ∙ j.1)
          by go (Together n2 s2 t2 same) = goes_forward k go t text events (step p args s) (step q args t) refl same (ap (meant_by steps) (sym (one_more p k s text events (step p args s) refl)) ∙ h)

      -- ---- back

      abbrev Back : ℕ → Type 0
      Back most = (k n : ℕ) (s t : State) (text : List ℕ) (events : List Event) → k < most → R n s t → Comes q k t text events → Ends_so p s text events

      goes_back : (most k : ℕ) → k < most → Back most → (s : State) (text : List ℕ) (events : List Event) (next other : Next) → step p args s ≡ next → SameNext next other → meant_by steps (follow (run q args k) text events other) ≡ Some meant → Ends_so p s text events
      goes_back most k lt go s text events (Goes u) (Goes v) e (n, r) h = (let j = go k n u v text events lt r h in (suc j.0, ap (meant_by steps) (one_more p j.0 s text events (Goes u) e) ∙ j.1))
      goes_back most k lt go s text events (Puts byte u) (Puts other v) e (same, (n, r)) h =
          (let j = go k n u v (text ++ other ∷ []) events lt r h in (suc j.0, ap (meant_by steps) (one_more p j.0 s text events (Puts other u) (e ∙ ap (λ b. Puts b u) (sym same))) ∙ j.1))
      goes_back most k lt go s text events (Tells event u) (Tells other v) e (same, (n, r)) h =
          (let j = go k n u v text (events ++ other ∷ []) lt r h in (suc j.0, ap (meant_by steps) (one_more p j.0 s text events (Tells other u) (e ∙ ap (λ b. Tells b u) (sym same))) ∙ j.1))
      goes_back most k lt go s text events (Ends outcome core) (Ends other end) e (same, left) h =
          (1, ap (meant_by steps) (one_more p 0 s text events (Ends outcome core) e) ∙ ap (λ o. meant_by steps (follow (run p args 0) text events (Ends o core))) (sym same) ∙ ap (λ n. meant_by steps (Ended (Came other) n text events)) (sym left) ∙ h)
      goes_back most k lt go s text events (Sticks reason) (Sticks other) e same h = (1, ap (meant_by steps) (one_more p 0 s text events (Sticks reason) e) ∙ ap (λ o. meant_by steps (Ended (StuckFor o) 0 text events)) (sym same) ∙ h)
      goes_back most k lt go s text events next other e same h = elim same [ ]

      abbrev Inside : ℕ → ℕ → Type 0
      Inside most alone = (k n : ℕ) (u t : State) (text : List ℕ) (events : List Event) → k < suc most → n < alone → R n u t → Comes q k t text events → Ends_so p u text events

      within : (most : ℕ) → Back most → (alone k n : ℕ) (s t : State) (text : List ℕ) (events : List Event) → k < suc most → n < alone → R n s t → Comes q k t text events → Ends_so p s text events
      within most go zero k n s t text events lt few r h = absurd (omega (arith, few))
      within most go (suc alone) k n s t text events lt few r h = by (within most go alone) (moves n s t r)
        where
          together : (k : ℕ) → k < suc most → Comes q k t text events → SameNext (step p args s) (step q args t) → Ends_so p s text events
          together zero lt h same = absurd (never_now q t text events h)
          together (suc k) lt h same = goes_back most k (omega (arith, lt)) go s text events (step p args s) (step q args t) refl same (ap (meant_by steps) (sym (one_more q k t text events (step q args t) refl)) ∙ h)

          rest : Inside most alone → (m i : ℕ) (u v : State) → step p args s ≡ Goes u → Silent q args i t v → m < n → R m u v → (k < i) ⊎ ((j : ℕ) × (later i j ≡ k) × (j ≤ k)) → Ends_so p s text events
          rest on m i u v e silent less next (inl short) = absurd (too_few i k t v silent short text events h)
          rest on m i u v e silent less next (inr (j, same, enough)) =
              let left : Comes q j v text events = ap (meant_by steps) (sym (after_silent i t v silent j text events)) ∙ subst (λ k. Comes q k t text events) (sym same) h in
              let j = on j m u v text events (omega (arith, lt, enough)) (omega (arith, few, less)) next left in
              (suc j.0, ap (meant_by steps) (one_more p j.0 s text events (Goes u) e) ∙ j.1)

          by : Inside most alone → Moves n s t → Ends_so p s text events
          by on (Alone n2 m i s2 t2 u v e silent less next) = rest on m i u v e silent less next (left_over i k)
          by on (Together n2 s2 t2 same) = together k lt h same

      pub back : (most : ℕ) → Back most
      back zero k n s t text events lt r h = absurd (omega (arith, lt))
      back (suc most) k n s t text events lt r h = within most (back most) (suc n) k n s t text events lt (omega arith) r h
