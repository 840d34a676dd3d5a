-- Whole runs of a program and of its explicit program.
use Rattle.std.proofs.Common.{◌≡◌, ◌≤◌, ℕ, zero, suc, ◌+◌, ◌-◌, Bool, true, false, List, [], ◌∷◌, ◌++◌, Option, Some, None, refl, sym, ap, ◌∙◌, subst, arith}
use Rattle.csub_tree.specs.State.{Event}
use Rattle.ll_code.specs.State.{State, Next, Goes, Puts, Tells, Ends, Sticks}
use Rattle.ll_code.specs.Machine.{step, start}
use Rattle.ll_code.specs.Meaning.{Ending, Came, Ran, Ended, Unfinished, follow, run, Meant, meant_by, within, LMeans, RunsOn, NeverStuck}
use Rattle.ll_code.specs.Typed.{IsWellTyped}
use Rattle.ll_code.specs.declared.program.LlStage.TheVariants as stage
use Rattle.ll_code.specs.declared.program.LlProgram.{LlProgram}
use Rattle.ll_laws.specs.States.{StateFits, NextFits}
use Rattle.ll_laws.proofs.Steps.{step_fits}
use Rattle.ll_laws.proofs.Runs.{start_fits}
use Rattle.exc_transform.specs.Explicit.{graphs_calm}
use Rattle.exc_transform.specs.Pieces.{explicit}
use Rattle.exc_laws.specs.Ready.{IsClosed, IsReady, IsReadyOn}
use Rattle.ll_held.specs.Places.{IsPlaced}
use Rattle.ll_held.specs.Quiet.{Calm, Stay, Go}
use Rattle.ll_held.proofs.Placing.{NextPlaced, step_placed, start_placed}
use Rattle.exc_laws.specs.Stands.{Stands}
use Rattle.exc_laws.specs.Follows.{Does, Follows}
use Rattle.exc_laws.specs.Alike.{Allows}
use Rattle.exc_laws.proofs.Steps.{step_follows}
use Rattle.exc_laws.proofs.Without.{without_same}

-- ---- a run that has ended has ended

module _ (q : LlProgram) (args : List (List ℕ)) where
  pub one_more : (k : ℕ) (s : State) (text : List ℕ) (events : List Event) → run q args (suc k) s text events ≡ follow (run q args k) text events (step q args s)
  unfolding run
  one_more k s text events = refl

  not_yet : (s : State) (text : List ℕ) (events : List Event) → run q args 0 s text events ≡ Unfinished s text events
  unfolding run
  not_yet s text events = refl

  pub longer : (m i : ℕ) (s : State) (text : List ℕ) (events : List Event) (ending : Ending) (left : ℕ) (out : List ℕ) (told : List Event) → run q args m s text events ≡ Ended ending left out told → run q args (m + i) s text events ≡ Ended ending left out told
  unfolding run
  longer zero i s text events ending left out told e = absurd (cc)
  longer (suc m) i s text events ending left out told e =
      let f : suc m + i ≡ suc (m + i) = omega arith in ap (λ k. run q args k s text events) f ∙ after (step q args s) (λ s text events. longer m i s text events ending left out told) e
    where
      after : (next : Next) → ((s : State) (text : List ℕ) (events : List Event) → run q args m s text events ≡ Ended ending left out told → run q args (m + i) s text events ≡ Ended ending left out told)
          → follow (run q args m) text events next ≡ Ended ending left out told → follow (run q args (m + i)) text events next ≡ Ended ending left out told
      after (Goes t) go e = go t text events e
      after (Puts byte t) go e = go t (text ++ byte ∷ []) events e
      after (Tells event t) go e = go t text (events ++ event ∷ []) e
      after (Ends outcome core) go e = e
      after (Sticks reason) go e = e

module _ (p : LlProgram) (ok : IsWellTyped p) (raw : p.stage ≡ stage.Raw) (raises : graphs_calm p.graphs ≡ false) (closed : IsClosed p) (args : List (List ℕ)) where
  abbrev RanFollows : ℕ → State → List ℕ → List Event → Ran → Type 0
  RanFollows k x text events (Ended ending left out told) = (m : ℕ) × (run (explicit p) args m x text events ≡ Ended ending left out told)
  RanFollows k x text events (Unfinished later out told) = (j : ℕ) × (last : State) × (run (explicit p) args j x text events ≡ Unfinished last out told) × (k ≤ j)

  abbrev pub ReadyFrom : State → List ℕ → List Event → Type 0
  ReadyFrom s text events = (j : ℕ) (t : State) (on : List ℕ) (more : List Event) → run p args j s text events ≡ Unfinished t on more → IsReady p t

  -- some steps before
  lift : (k count : ℕ) (x later : State) (text on : List ℕ) (events more : List Event) → ((m : ℕ) → run (explicit p) args (m + count) x text events ≡ run (explicit p) args m later on more) → 1 ≤ count → (ran : Ran)
      → RanFollows k later on more ran → RanFollows (suc k) x text events ran
  lift k count x later text on events more move le (Ended ending left out told) (m, e) = (m + count, move m ∙ e)
  lift k count x later text on events more move le (Unfinished final out told) (j, last, e, lt) = (j + count, last, move j ∙ e, omega (arith, le, lt))

  -- what is done some steps later
  moved : (x : State) (next : Next) (d : Does p args x next) (text : List ℕ) (events : List Event) (m : ℕ) → run (explicit p) args (m + (1 + d.count)) x text events ≡ follow (run (explicit p) args m) text events next
  moved x next d text events m =
      (let e : m + (1 + d.count) ≡ suc m + d.count = omega arith in ap (λ k. run (explicit p) args k x text events) e) ∙ d.leads.by (suc m) text events ∙ one_more (explicit p) args m d.later text events
      ∙ ap (follow (run (explicit p) args m) text events) d.does

  pub later_ready : (s : State) (text : List ℕ) (events : List Event) → ReadyFrom s text events → (j : ℕ) (t : State) (on : List ℕ) (more : List Event) → follow (run p args j) text events (step p args s) ≡ Unfinished t on more → IsReady p t
  later_ready s text events r j t on more e = r (suc j) t on more (one_more p args j s text events ∙ e)

  -- where the explicit program comes it stands in a block of its own
  pub calm_placed : (x y : State) → Calm (explicit p) args x y → IsPlaced (explicit p) x → IsPlaced (explicit p) y
  calm_placed x y (Stay s) h = h
  calm_placed x y (Go s t u e q c) h = calm_placed t y c (subst (NextPlaced (explicit p)) e (step_placed (explicit p) args s h))

  pub does_placed : (x : State) (next : Next) (d : Does p args x next) → IsPlaced (explicit p) x → NextPlaced (explicit p) next
  does_placed x next d h = subst (NextPlaced (explicit p)) d.does (step_placed (explicit p) args d.later (calm_placed x d.later d.leads.calm h))

  on_next : (k : ℕ) (s x : State) (text : List ℕ) (events : List Event) → ((t later : State) (on : List ℕ) (more : List Event) → Stands p t later → IsPlaced p t → IsPlaced (explicit p) later → StateFits p t → ReadyFrom t on more → RanFollows k later on more (run p args k t on more))
      → (next : Next) → step p args s ≡ next → Follows p args x next → NextPlaced p next → IsPlaced (explicit p) x → NextFits p next → ReadyFrom s text events → RanFollows (suc k) x text events (follow (run p args k) text events next)
  on_next k s x text events go (Goes t) is (later, d, stands) place x_place fit r =
      lift k (1 + d.count) x later text text events events (moved x (Goes later) d text events) (omega arith) (run p args k t text events)
      (go t later text events stands place (does_placed x (Goes later) d x_place) fit (λ j u on more e. later_ready s text events r j u on more (ap (follow (run p args j) text events) is ∙ e)))
  on_next k s x text events go (Puts byte t) is (later, d, stands) place x_place fit r =
      lift k (1 + d.count) x later text (text ++ byte ∷ []) events events (moved x (Puts byte later) d text events) (omega arith) (run p args k t (text ++ byte ∷ []) events)
      (go t later (text ++ byte ∷ []) events stands place (does_placed x (Puts byte later) d x_place) fit (λ j u on more e. later_ready s text events r j u on more (ap (follow (run p args j) text events) is ∙ e)))
  on_next k s x text events go (Tells event t) is (later, d, stands) place x_place fit r =
      lift k (1 + d.count) x later text text events (events ++ event ∷ []) (moved x (Tells event later) d text events) (omega arith) (run p args k t text (events ++ event ∷ []))
      (go t later text (events ++ event ∷ []) stands place (does_placed x (Tells event later) d x_place) fit (λ j u on more e. later_ready s text events r j u on more (ap (follow (run p args j) text events) is ∙ e)))
  on_next k s x text events go (Ends outcome core) is (x_core, d, e) place x_place fit r = (0 + (1 + d.count), moved x (Ends outcome x_core) d text events 0 ∙ ap (λ n. Ended (Came outcome) n text events) e)
  on_next k s x text events go (Sticks reason) is d place x_place fit r = (0 + (1 + d.count), moved x (Sticks reason) d text events 0)

  pub run_follows : (k : ℕ) (s x : State) (text : List ℕ) (events : List Event) → Stands p s x → IsPlaced p s → IsPlaced (explicit p) x → StateFits p s → ReadyFrom s text events → RanFollows k x text events (run p args k s text events)
  unfolding run
  run_follows zero s x text events stands place x_place fit r = (0, x, not_yet (explicit p) args x text events, omega arith)
  run_follows (suc k) s x text events stands place x_place fit r =
      on_next k s x text events (λ t later on more. run_follows k t later on more) (step p args s) refl (step_follows p ok raw raises closed args s x stands place x_place fit (r 0 s text events (not_yet p args s text events))) (step_placed p args s place) x_place (step_fits p ok args s fit) r

  module _ (steps : ℕ) (ready : IsReadyOn p args steps) where
    start_stands : Stands p (start p steps) (start (explicit p) steps)
    start_stands = record { called = refl; given = refl; beside = record { function = refl; blocks = refl; statics = refl; steps = refl }; clear = (refl, refl); waiting = tt }

    whole : (k : ℕ) → RanFollows k (start (explicit p) steps) [] [] (run p args k (start p steps) [] [])
    whole k = run_follows k (start p steps) (start (explicit p) steps) [] [] start_stands (start_placed p args steps) (start_placed (explicit p) args steps) (start_fits p ok steps) ready

    pub forth : (meant : Meant) → LMeans p args steps meant → LMeans (explicit p) args steps meant
    forth meant (k, e) = on (run p args k (start p steps) [] []) (whole k) e
      where
        on : (ran : Ran) → RanFollows k (start (explicit p) steps) [] [] ran → meant_by steps ran ≡ Some meant → LMeans (explicit p) args steps meant
        on (Ended ending left out told) (m, f) e = (m, ap (meant_by steps) f ∙ e)
        on (Unfinished later out told) f e = absurd (cc)

    same_end : (m n : ℕ) (a b : Ending) (left_a left_b : ℕ) (out_a out_b : List ℕ) (told_a told_b : List Event) → run (explicit p) args m (start (explicit p) steps) [] [] ≡ Ended a left_a out_a told_a
        → run (explicit p) args n (start (explicit p) steps) [] [] ≡ Ended b left_b out_b told_b → Ended a left_a out_a told_a ≡ Ended b left_b out_b told_b
    same_end m n a b left_a left_b out_a out_b told_a told_b e f =
        sym (longer (explicit p) args m n (start (explicit p) steps) [] [] a left_a out_a told_a e) ∙ (let h : m + n ≡ n + m = omega arith in ap (λ k. run (explicit p) args k (start (explicit p) steps) [] []) h)
        ∙ longer (explicit p) args n m (start (explicit p) steps) [] [] b left_b out_b told_b f

    not_on : (k j : ℕ) (a : Ending) (left : ℕ) (out on : List ℕ) (told more : List Event) (last : State) → k ≤ j → run (explicit p) args k (start (explicit p) steps) [] [] ≡ Ended a left out told
        → run (explicit p) args j (start (explicit p) steps) [] [] ≡ Unfinished last on more → ⊥
    not_on k j a left out on told more last le e f =
        let h : k + (j - k) ≡ j = omega (arith, le) in
        let g : Ended a left out told ≡ Unfinished last on more = sym (longer (explicit p) args k (j - k) (start (explicit p) steps) [] [] a left out told e) ∙ ap (λ n. run (explicit p) args n (start (explicit p) steps) [] []) h ∙ f in
        absurd (cc)

    pub back : (meant : Meant) → LMeans (explicit p) args steps meant → LMeans p args steps meant
    back meant (k, e) = on (run (explicit p) args k (start (explicit p) steps) [] []) refl e
      where
        ended : (a : Ending) (left : ℕ) (out : List ℕ) (told : List Event) → run (explicit p) args k (start (explicit p) steps) [] [] ≡ Ended a left out told → meant_by steps (Ended a left out told) ≡ Some meant
            → (ran : Ran) → run p args (k + 1) (start p steps) [] [] ≡ ran → RanFollows (k + 1) (start (explicit p) steps) [] [] ran → LMeans p args steps meant
        ended a left out told f e (Ended b left_b out_b told_b) i (m, g) = (k + 1, ap (meant_by steps) i ∙ ap (meant_by steps) (same_end m k b a left_b left out_b out told_b told g f) ∙ e)
        ended a left out told f e (Unfinished later on more) i (j, last, g, le) = absurd (not_on k j a left out on told more last (omega (arith, le)) f g)

        on : (ran : Ran) → run (explicit p) args k (start (explicit p) steps) [] [] ≡ ran → meant_by steps ran ≡ Some meant → LMeans p args steps meant
        on (Ended a left out told) f e = ended a left out told f e (run p args (k + 1) (start p steps) [] []) refl (whole (k + 1))
        on (Unfinished later out told) f e = absurd (cc)

-- ---- with or without exceptions

module _ (p : LlProgram) (ok : IsWellTyped p) (raw : p.stage ≡ stage.Raw) (args : List (List ℕ)) (steps : ℕ) (allows : Allows p args steps) where
  pub means_forth : (meant : Meant) → LMeans p args steps meant → LMeans (explicit p) args steps meant
  means_forth meant h = one (graphs_calm p.graphs) refl
    where
      one : (b : Bool) → graphs_calm p.graphs ≡ b → LMeans (explicit p) args steps meant
      one true e = (h.0, without_same p e args steps h.0 ∙ h.1)
      one false e = forth p ok raw e allows.closed args steps allows.ready meant h

  pub means_back : (meant : Meant) → LMeans (explicit p) args steps meant → LMeans p args steps meant
  means_back meant h = one (graphs_calm p.graphs) refl
    where
      one : (b : Bool) → graphs_calm p.graphs ≡ b → LMeans p args steps meant
      one true e = (h.0, sym (without_same p e args steps h.0) ∙ h.1)
      one false e = back p ok raw e allows.closed args steps allows.ready meant h

  pub goes_on : ((k : ℕ) → RunsOn k p args steps) → (k : ℕ) → RunsOn k (explicit p) args steps
  goes_on on k = none (within (explicit p) args steps k) refl
    where
      none : (o : Option Meant) → within (explicit p) args steps k ≡ o → o ≡ None
      none None e = refl
      none (Some meant) e = let m = means_back meant (k, e) in absurd (let f : None ≡ Some meant = sym (on m.0) ∙ m.1 in cc)

  pub goes_on_too : ((k : ℕ) → RunsOn k (explicit p) args steps) → (k : ℕ) → RunsOn k p args steps
  goes_on_too on k = none (within p args steps k) refl
    where
      none : (o : Option Meant) → within p args steps k ≡ o → o ≡ None
      none None e = refl
      none (Some meant) e = let m = means_forth meant (k, e) in absurd (let f : None ≡ Some meant = sym (on m.0) ∙ m.1 in cc)

pub never_stuck : (p : LlProgram) → IsWellTyped p → p.stage ≡ stage.Raw → ((args : List (List ℕ)) (steps : ℕ) → Allows p args steps) → NeverStuck p → NeverStuck (explicit p)
never_stuck p ok raw allows never args steps meant h = never args steps meant (means_back p ok raw args steps (allows args steps) meant h)
