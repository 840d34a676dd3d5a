-- Graphs have at most one meaning: a run that has ended has ended.
use Rattle.std.proofs.Common.{◌≡◌, ℕ, zero, suc, ◌+◌, Bool, List, Option, Some, None, refl, sym, ap, ◌∙◌, arith}
use Rattle.rpy_meaning.specs.Tree.{Program}
use Rattle.rpy_meaning.specs.Meaning.{Run}
use Rattle.flow_graph.specs.declared.graph.Graphs.{Graphs}
use Rattle.flow_meaning.specs.Machine.{State, Next, Goes, Ends, Stops, Strays, step}
use Rattle.flow_meaning.specs.Meaning.{Ran, Ended, Unfinished, follow, run, start, ended, GMeans}
use Rattle.flow_meaning.specs.Moments.{is_at, is_behind, past, on_past, follow_past, step_past, run_to, IsMoment}

module _ (p : Program) (gs : Graphs) where
  pub one_more : (k : ℕ) (s : State) → run p gs (suc k) s ≡ follow (run p gs k) s (step p gs s)
  unfolding run
  one_more k s = refl

  pub longer : (m i : ℕ) (s : State) (r : Run) → run p gs m s ≡ Ended r → run p gs (m + i) s ≡ Ended r
  unfolding run
  longer zero i s r e = absurd (cc)
  longer (suc m) i s r e = let f : suc m + i ≡ suc (m + i) = omega arith in ap (λ k. run p gs k s) f ∙ after (step p gs s) (λ t. longer m i t r) e
    where
      after : (next : Next) → ((t : State) → run p gs m t ≡ Ended r → run p gs (m + i) t ≡ Ended r) → follow (run p gs m) s next ≡ Ended r → follow (run p gs (m + i)) s next ≡ Ended r
      after (Goes t) go e = go t e
      after (Ends outcome world) go e = e
      after (Stops world) go e = e
      after Strays go e = e

  ended_is : (ran : Ran) (r : Run) → ended ran ≡ Some r → ran ≡ Ended r
  ended_is (Ended q) r e = let f : q ≡ r = cc in ap Ended f
  ended_is (Unfinished s) r e = absurd (cc)

  pub one_meaning : (args : List (List ℕ)) (n : ℕ) (r q : Run) → GMeans p gs args n r → GMeans p gs args n q → r ≡ q
  one_meaning args n r q (k, e) (j, f) =
      let a : run p gs (k + j) (start p args n) ≡ Ended r = longer k j (start p args n) r (ended_is (run p gs k (start p args n)) r e) in
      let b : run p gs (j + k) (start p args n) ≡ Ended q = longer j k (start p args n) q (ended_is (run p gs j (start p args n)) q f) in
      let c : j + k ≡ k + j = omega arith in
      let d : Ended r ≡ Ended q = sym a ∙ ap (λ i. run p gs i (start p args n)) (sym c) ∙ b in
      cc

  -- ---- moments

  pub one_past : (k m : ℕ) (s : State) → run_to p gs (suc k) m s ≡ step_past p gs (run_to p gs k) s (past (is_at p gs s) m)
  unfolding run_to
  one_past k m s = refl

  longer_to : (k i m : ℕ) (s : State) (r : Run) → run_to p gs k m s ≡ Ended r → run_to p gs (k + i) m s ≡ Ended r
  unfolding run_to
  longer_to zero i m s r e = absurd (cc)
  longer_to (suc k) i m s r e =
      let f : suc k + i ≡ suc (k + i) = omega arith in
      ap (λ n. run_to p gs n m s) f ∙ before (past (is_at p gs s) m) (λ j t. longer_to k i j t r) e
    where
      on : (t : State) (o : Option ℕ) → ((j : ℕ) (t : State) → run_to p gs k j t ≡ Ended r → run_to p gs (k + i) j t ≡ Ended r) → on_past (run_to p gs k) t o ≡ Ended r → on_past (run_to p gs (k + i)) t o ≡ Ended r
      on t None go e = e
      on t (Some j) go e = go j t e

      after : (next : Next) (behind : Bool) (j : ℕ) → ((j : ℕ) (t : State) → run_to p gs k j t ≡ Ended r → run_to p gs (k + i) j t ≡ Ended r) → follow_past (run_to p gs k) s behind j next ≡ Ended r → follow_past (run_to p gs (k + i)) s behind j next ≡ Ended r
      after (Goes t) behind j go e = on t (past behind j) go e
      after (Ends outcome world) behind j go e = e
      after (Stops world) behind j go e = e
      after Strays behind j go e = e

      before : (o : Option ℕ) → ((j : ℕ) (t : State) → run_to p gs k j t ≡ Ended r → run_to p gs (k + i) j t ≡ Ended r) → step_past p gs (run_to p gs k) s o ≡ Ended r → step_past p gs (run_to p gs (k + i)) s o ≡ Ended r
      before None go e = e
      before (Some j) go e = after (step p gs s) (is_behind p s) j go e

  pub one_moment : (args : List (List ℕ)) (n m : ℕ) (r q : Run) → IsMoment p gs args n m r → IsMoment p gs args n m q → r ≡ q
  one_moment args n m r q (k, e) (j, f) =
      let a : run_to p gs (k + j) m (start p args n) ≡ Ended r = longer_to k j m (start p args n) r (ended_is (run_to p gs k m (start p args n)) r e) in
      let b : run_to p gs (j + k) m (start p args n) ≡ Ended q = longer_to j k m (start p args n) q (ended_is (run_to p gs j m (start p args n)) q f) in
      let c : j + k ≡ k + j = omega arith in
      let d : Ended r ≡ Ended q = sym a ∙ ap (λ i. run_to p gs i m (start p args n)) (sym c) ∙ b in
      cc
