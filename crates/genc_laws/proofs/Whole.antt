-- Whole runs of a low-level program and of its C file.
use Rattle.std.proofs.Common.{◌≡◌, ◌≤◌, ℕ, zero, suc, ◌+◌, ◌-◌, ◌*◌, true, List, [], ◌∷◌, ◌++◌, length, map, Option, Some, None, refl, sym, ap, ◌∙◌, subst, arith, ◌⊎◌, inl, inr}
use Rattle.std.specs.Prelude.{slice_get}
use Rattle.rpy_base.specs.declared.outcome.Outcome.{Outcome}
use Rattle.csub_tree.specs.State.{Core, Event, After, Onward, Puts as PutsByte, Told, Over, Stuck}
use Rattle.csub_tree.specs.Layout.{static_block}
use Rattle.csub_tree.specs.Machine as c_machine
use Rattle.csub_tree.specs.Machine.{locals_of, statement_number}
use Rattle.csub_tree.specs.Meaning as c
use Rattle.csub_tree.specs.Meaning.{run as c_run}
use Rattle.csub_tree.specs.declared.stuck.StuckReason.{StuckReason}
use Rattle.csub_tree.specs.declared.stuck.StuckReason.TheVariants.{Unset as IsUnset}
use Rattle.csub_tree.specs.declared.tree.CFile.{CFile}
use Rattle.ll_code.specs.State.{State, Next, Goes, Puts, Tells, Ends, Sticks}
use Rattle.ll_code.specs.Machine.{step, start, shapes_of}
use Rattle.ll_code.specs.Meaning as l
use Rattle.ll_code.specs.Meaning.{run as l_run, NeverStuck}
use Rattle.ll_code.specs.Typed.{IsWellTyped, begins_run, takes_nothing}
use Rattle.ll_code.specs.declared.program.LlStage.TheVariants as stage
use Rattle.ll_code.specs.declared.program.LlGraph.{LlGraph}
use Rattle.ll_code.specs.declared.program.LlProgram.{LlProgram}
use Rattle.ll_laws.specs.States.{StateFits, NextFits}
use Rattle.ll_laws.proofs.Values.{and_left}
use Rattle.ll_laws.proofs.Steps.{step_fits}
use Rattle.ll_laws.proofs.Runs.{start_fits}
use Rattle.genc_lower.specs.Lower.{order_of, lowered, function_of, function_code, static_code}
use Rattle.genc_laws.specs.Stands.{count_of, Stands}
use Rattle.genc_laws.specs.Follows.{weight, IsAtLink, Follows}
use Rattle.genc_laws.specs.Alike.{SameMeant, IsStuckAtLink, IsFunctionOf}
use Rattle.genc_laws.proofs.Operations.{shapes_same}
use Rattle.genc_laws.proofs.Leading.{one}
use Rattle.genc_laws.proofs.Places.{order_at, order_count, entry_place, variable_count}
use Rattle.genc_laws.proofs.Calls.{unset_at, length_filled}
use Rattle.genc_laws.proofs.Statics.{statics_same}
use Rattle.genc_laws.proofs.Steps.{params_of, entry_of, good_graph, function_at, step_follows}

-- ---- a run that has ended has ended

module _ (file : CFile) (args : List (List ℕ)) where
  pub longer : (m i : ℕ) (core : Core) (text : List ℕ) (events : List Event) (ran : c.Ending) (last : Core) (out : List ℕ) (told : List Event)
      → c_run file args m core text events ≡ c.Ended ran last out told → c_run file args (m + i) core text events ≡ c.Ended ran last out told
  unfolding c_run
  longer zero i core text events ran last out told e = absurd (cc)
  longer (suc m) i core text events ran last out told e =
      let f : suc m + i ≡ suc (m + i) = omega arith in
      ap (λ k. c_run file args k core text events) f ∙ after (c_machine.step file args core) (λ core text events. longer m i core text events ran last out told) e
    where
      after : (a : After) → ((core : Core) (text : List ℕ) (events : List Event) → c_run file args m core text events ≡ c.Ended ran last out told → c_run file args (m + i) core text events ≡ c.Ended ran last out told)
          → c.follow file (c_run file args m) core text events a ≡ c.Ended ran last out told → c.follow file (c_run file args (m + i)) core text events a ≡ c.Ended ran last out told
      after (Onward next) go e = go next text events e
      after (PutsByte byte next) go e = go next (text ++ byte ∷ []) events e
      after (Told event next) go e = go next text (events ++ event ∷ []) e
      after (Over outcome next) go e = e
      after (Stuck reason) go e = e

  nothing_yet : (core : Core) (text : List ℕ) (events : List Event) → c_run file args 0 core text events ≡ c.Unfinished core text events
  unfolding c_run
  nothing_yet core text events = refl

module _ (p : LlProgram) (ok : IsWellTyped p) (counted : p.stage ≡ stage.Counted) (args : List (List ℕ)) where
  -- ---- the start

  module _ (steps : ℕ) where
    pub start_stands : Stands p (start p steps) (c_machine.start (lowered p) steps)
    start_stands = from (entry_of p ok)
      where
        from : (g : LlGraph) × (slice_get p.graphs p.entry ≡ Some g) × (begins_run (Some g) ≡ true) → Stands p (start p steps) (c_machine.start (lowered p) steps)
        from (g, is, h) = (
          g,
          record {
            of = is;
            function = number;
            block = refl;
            at = refl;
            size = length_filled _ ∙ ap (λ n. locals_of (slice_get (lowered p).functions n)) number ∙ ap locals_of (function_at p ok counted args p.entry g is) ∙ locals (no_params g.params (and_left _ _ h));
            vars = λ a. unset_at _ a;
            memory = record {
              blocks = refl;
              statics = ap (λ shapes. map (static_block shapes) (map (static_code (order_of p)) p.statics)) (shapes_same p.structs) ∙ statics_same (order_of p) (shapes_of p.structs) p.statics;
              exc_type = refl;
              exc_value = refl;
              steps = refl;
            };
            waiting = refl;
          },
        )
          where
            number : length (lowered p).functions - 1 ≡ function_of (order_of p) p.entry
            number = ap (λ n. n - 1) (order_count (function_code (order_of p)) p g is) ∙ sym (entry_place p)

            no_params : (vs : List ℕ) → takes_nothing vs ≡ true → length vs ≡ 0
            no_params [] e = refl
            no_params (v ∷ vs) e = absurd (cc)

            locals : length g.params ≡ 0 → length (function_code (order_of p) g).locals ≡ count_of g
            locals none = let e : length g.params + length (function_code (order_of p) g).locals ≡ count_of g = variable_count p g (params_of p g (good_graph p ok counted args p.entry g is)) in omega (arith, none, e)

  -- ---- runs

  -- the run comes to a link that passes something unset
  abbrev AtLink : State → List ℕ → List Event → Type 0
  AtLink s text events = (j : ℕ) × (t : State) × (on : List ℕ) × (more : List Event) × (l_run p args j s text events ≡ l.Unfinished t on more) × IsAtLink t × (step p args t ≡ Sticks IsUnset)

  abbrev RanFollows : State → ℕ → Core → List ℕ → List Event → l.Ran → Type 0
  RanFollows s k core text events (l.Ended (l.Came outcome) left out told) = (m : ℕ) × (last : Core) × (c_run (lowered p) args m core text events ≡ c.Ended (c.Came outcome) last out told) × (last.steps ≡ left)
  RanFollows s k core text events (l.Ended (l.StuckFor reason) left out told) =
      ((m : ℕ) × (last : Core) × (n : ℕ) × (c_run (lowered p) args m core text events ≡ c.Ended (c.StuckAt reason n) last out told)) ⊎ ((reason ≡ IsUnset) × AtLink s text events)
  RanFollows s k core text events (l.Unfinished later out told) = (j : ℕ) × (last : Core) × (c_run (lowered p) args j core text events ≡ c.Unfinished last out told) × (k + weight later ≤ weight s + 3 * j)

  -- some statements before
  lift : (s t : State) (k count : ℕ) (core later : Core) (text on : List ℕ) (events more : List Event) → ((m : ℕ) → c_run (lowered p) args (m + count) core text events ≡ c_run (lowered p) args m later on more)
      → ((j : ℕ) → l_run p args (suc j) s text events ≡ l_run p args j t on more) → 1 + weight t ≤ weight s + 3 * count → (ran : l.Ran) → RanFollows t k later on more ran → RanFollows s (suc k) core text events ran
  lift s t k count core later text on events more move l_move pays (l.Ended (l.Came outcome) left out told) (m, last, e, f) = (m + count, last, move m ∙ e, f)
  lift s t k count core later text on events more move l_move pays (l.Ended (l.StuckFor reason) left out told) (inl (m, last, n, e)) = inl (m + count, last, n, move m ∙ e)
  lift s t k count core later text on events more move l_move pays (l.Ended (l.StuckFor reason) left out told) (inr (e, (j, u, o, m, f, a, b))) = inr (e, (suc j, u, o, m, l_move j ∙ f, a, b))
  lift s t k count core later text on events more move l_move pays (l.Unfinished final out told) (j, last, e, le) = (j + count, last, move j ∙ e, omega (arith, pays, le))

  after_one : (core : Core) (text : List ℕ) (events : List Event) (after : After) → c_machine.step (lowered p) args core ≡ after → (m : ℕ) → c_run (lowered p) args (m + 1) core text events ≡ c.follow (lowered p) (c_run (lowered p) args m) core text events after
  after_one core text events after e m =
      (let f : m + 1 ≡ suc m = omega arith in ap (λ k. c_run (lowered p) args k core text events) f) ∙ one (lowered p) args m core text events ∙ ap (c.follow (lowered p) (c_run (lowered p) args m) core text events) e

  l_one : (j : ℕ) (s : State) (text : List ℕ) (events : List Event) (next : Next) → step p args s ≡ next → l_run p args (suc j) s text events ≡ l.follow (l_run p args j) text events next
  unfolding l_run
  l_one j s text events next is = ap (l.follow (l_run p args j) text events) is

  l_now : (s : State) (text : List ℕ) (events : List Event) → l_run p args 0 s text events ≡ l.Unfinished s text events
  unfolding l_run
  l_now s text events = refl

  on_next : (k : ℕ) (s : State) (core : Core) (text : List ℕ) (events : List Event) → ((t : State) (later : Core) (on : List ℕ) (more : List Event) → Stands p t later → StateFits p t → RanFollows t k later on more (l_run p args k t on more))
      → (next : Next) → step p args s ≡ next → Follows p args s core next → NextFits p next → RanFollows s (suc k) core text events (l.follow (l_run p args k) text events next)
  on_next k s core text events go (Goes t) is f fit = lift s t k f.count core f.later text text events events (λ m. f.leads.by m text events) (λ j. l_one j s text events (Goes t) is) f.pays (l_run p args k t text events) (go t f.later text events f.stands fit)
  on_next k s core text events go (Puts byte t) is (later, e, stands, le) fit =
      lift s t k 1 core later text (text ++ byte ∷ []) events events (after_one core text events (PutsByte byte later) e) (λ j. l_one j s text events (Puts byte t) is) (omega (arith, le)) (l_run p args k t (text ++ byte ∷ []) events) (go t later (text ++ byte ∷ []) events stands fit)
  on_next k s core text events go (Tells event t) is (later, e, stands, le) fit =
      lift s t k 1 core later text text events (events ++ event ∷ []) (after_one core text events (Told event later) e) (λ j. l_one j s text events (Tells event t) is) (omega (arith, le)) (l_run p args k t text (events ++ event ∷ [])) (go t later text (events ++ event ∷ []) stands fit)
  on_next k s core text events go (Ends outcome last) is (later, e, f) fit = (0 + 1, later, after_one core text events (Over outcome later) e 0, f)
  on_next k s core text events go (Sticks reason) is (inl f) fit =
      inl (1 + f.count, f.later, statement_number (lowered p).functions f.later, f.leads.by 1 text events ∙ one (lowered p) args 0 f.later text events ∙ ap (c.follow (lowered p) (c_run (lowered p) args 0) f.later text events) f.stuck)
  on_next k s core text events go (Sticks reason) is (inr (e, at)) fit = inr (e, (0, s, text, events, l_now s text events, at, is ∙ ap Sticks e))

  pub run_follows : (k : ℕ) (s : State) (core : Core) (text : List ℕ) (events : List Event) → Stands p s core → StateFits p s → RanFollows s k core text events (l_run p args k s text events)
  unfolding l_run
  run_follows zero s core text events stands fit = (0, core, nothing_yet (lowered p) args core text events, omega arith)
  run_follows (suc k) s core text events stands fit =
      on_next k s core text events (λ t later on more. run_follows k t later on more) (step p args s) refl (step_follows p ok counted args s core stands fit) (step_fits p ok args s fit)

  module _ (steps : ℕ) where
    whole : (k : ℕ) → RanFollows (start p steps) k (c_machine.start (lowered p) steps) [] [] (l_run p args k (start p steps) [] [])
    whole k = run_follows k (start p steps) (c_machine.start (lowered p) steps) [] [] (start_stands steps) (start_fits p ok steps)

    -- ---- what runs mean

    l_meant : l.Ending → ℕ → List ℕ → List Event → l.Meant
    l_meant ending left out told = record { ending = ending; output = out; paid = steps - left; made = c.made_in told; gone = c.gone_in told }

    c_meant : c.Ending → Core → List ℕ → List Event → c.Meant
    c_meant ending last out told = record { ending = ending; output = out; paid = steps - last.steps; made = c.made_in told; gone = c.gone_in told }

    came_alike : (outcome : Outcome) (left : ℕ) (last : Core) (out : List ℕ) (told : List Event) → last.steps ≡ left → SameMeant (l_meant (l.Came outcome) left out told) (c_meant (c.Came outcome) last out told)
    unfolding l_meant c_meant
    came_alike outcome left last out told e = record { ending = refl; output = refl; made = refl; gone = refl; paid = λ h. ap (λ n. steps - n) e }

    stuck_alike : (reason : StuckReason) (left n : ℕ) (last : Core) (out : List ℕ) (told : List Event) → SameMeant (l_meant (l.StuckFor reason) left out told) (c_meant (c.StuckAt reason n) last out told)
    unfolding l_meant c_meant
    stuck_alike reason left n last out told = record { ending = refl; output = refl; made = refl; gone = refl; paid = λ h. absurd h }

    means : (m : ℕ) (ending : c.Ending) (last : Core) (out : List ℕ) (told : List Event) → c_run (lowered p) args m (c_machine.start (lowered p) steps) [] [] ≡ c.Ended ending last out told
        → c.CMeans (lowered p) args steps (c_meant ending last out told)
    unfolding c_meant
    means m ending last out told e = (m, ap (c.meant_by steps) e)

    forth : (k : ℕ) (ran : l.Ran) (meant : l.Meant) → RanFollows (start p steps) k (c_machine.start (lowered p) steps) [] [] ran → l.meant_by steps ran ≡ Some meant
        → ((c_meaning : c.Meant) × c.CMeans (lowered p) args steps c_meaning × SameMeant meant c_meaning) ⊎ IsStuckAtLink p args steps meant
    unfolding l_meant
    forth k (l.Ended (l.Came outcome) left out told) meant (m, last, e, f) is =
        let g : l_meant (l.Came outcome) left out told ≡ meant = cc in
        inl (c_meant (c.Came outcome) last out told, means m (c.Came outcome) last out told e, subst (λ x. SameMeant x (c_meant (c.Came outcome) last out told)) g (came_alike outcome left last out told f))
    forth k (l.Ended (l.StuckFor reason) left out told) meant (inl (m, last, n, e)) is =
        let g : l_meant (l.StuckFor reason) left out told ≡ meant = cc in
        inl (c_meant (c.StuckAt reason n) last out told, means m (c.StuckAt reason n) last out told e, subst (λ x. SameMeant x (c_meant (c.StuckAt reason n) last out told)) g (stuck_alike reason left n last out told))
    forth k (l.Ended (l.StuckFor reason) left out told) meant (inr (e, (j, t, on, more, f, at, sticks))) is =
        let g : l_meant (l.StuckFor reason) left out told ≡ meant = cc in
        inr (record { ending = sym (ap (λ (x : l.Meant). x.ending) g) ∙ ap l.StuckFor e; count = j; state = t; text = on; events = more; comes = f; at = at; sticks = sticks })
    forth k (l.Unfinished later out told) meant f is = absurd (cc)

    pub ends_alike : (meant : l.Meant) → l.LMeans p args steps meant → ((c_meaning : c.Meant) × c.CMeans (lowered p) args steps c_meaning × SameMeant meant c_meaning) ⊎ IsStuckAtLink p args steps meant
    ends_alike meant (k, e) = forth k (l_run p args k (start p steps) [] []) meant (whole k) e

    -- ---- and back

    one_ending : (m n : ℕ) (a b : c.Ending) (c_a c_b : Core) (out_a out_b : List ℕ) (told_a told_b : List Event)
        → c_run (lowered p) args m (c_machine.start (lowered p) steps) [] [] ≡ c.Ended a c_a out_a told_a → c_run (lowered p) args n (c_machine.start (lowered p) steps) [] [] ≡ c.Ended b c_b out_b told_b
        → c_meant a c_a out_a told_a ≡ c_meant b c_b out_b told_b
    unfolding c_meant
    one_ending m n a b c_a c_b out_a out_b told_a told_b e f =
        let g : c.Ended a c_a out_a told_a ≡ c.Ended b c_b out_b told_b =
        sym (longer (lowered p) args m n (c_machine.start (lowered p) steps) [] [] a c_a out_a told_a e) ∙ (let h : m + n ≡ n + m = omega arith in ap (λ k. c_run (lowered p) args k (c_machine.start (lowered p) steps) [] []) h)
        ∙ longer (lowered p) args n m (c_machine.start (lowered p) steps) [] [] b c_b out_b told_b f in
        let i : Some (c_meant a c_a out_a told_a) ≡ Some (c_meant b c_b out_b told_b) = ap (c.meant_by steps) g in cc

    not_on : (k j : ℕ) (a : c.Ending) (last still : Core) (out on : List ℕ) (told more : List Event) → k ≤ j → c_run (lowered p) args k (c_machine.start (lowered p) steps) [] [] ≡ c.Ended a last out told
        → c_run (lowered p) args j (c_machine.start (lowered p) steps) [] [] ≡ c.Unfinished still on more → ⊥
    not_on k j a last still out on told more le e f =
        let h : k + (j - k) ≡ j = omega (arith, le) in
        let g : c.Ended a last out told ≡ c.Unfinished still on more = sym (longer (lowered p) args k (j - k) (c_machine.start (lowered p) steps) [] [] a last out told e) ∙ ap (λ n. c_run (lowered p) args n (c_machine.start (lowered p) steps) [] []) h ∙ f in
        absurd (cc)

    back : (k : ℕ) (a : c.Ending) (last : Core) (out : List ℕ) (told : List Event) → c_run (lowered p) args k (c_machine.start (lowered p) steps) [] [] ≡ c.Ended a last out told
        → (ran : l.Ran) → l_run p args (3 * k + 3) (start p steps) [] [] ≡ ran → RanFollows (start p steps) (3 * k + 3) (c_machine.start (lowered p) steps) [] [] ran
        → (meant : l.Meant) × l.LMeans p args steps meant × (SameMeant meant (c_meant a last out told) ⊎ IsStuckAtLink p args steps meant)
    unfolding l_meant
    back k a last out told e (l.Ended (l.Came outcome) left on more) r (m, c_last, f, g) = (
      l_meant (l.Came outcome) left on more,
      (3 * k + 3, ap (l.meant_by steps) r),
      inl (subst (SameMeant (l_meant (l.Came outcome) left on more)) (one_ending m k (c.Came outcome) a c_last last on out more told f e) (came_alike outcome left c_last on more g)),
    )
    back k a last out told e (l.Ended (l.StuckFor reason) left on more) r (inl (m, c_last, n, f)) = (
      l_meant (l.StuckFor reason) left on more,
      (3 * k + 3, ap (l.meant_by steps) r),
      inl (subst (SameMeant (l_meant (l.StuckFor reason) left on more)) (one_ending m k (c.StuckAt reason n) a c_last last on out more told f e) (stuck_alike reason left n c_last on more)),
    )
    back k a last out told e (l.Ended (l.StuckFor reason) left on more) r (inr (f, (j, t, text, events, g, at, sticks))) = (
      l_meant (l.StuckFor reason) left on more,
      (3 * k + 3, ap (l.meant_by steps) r),
      inr (record { ending = ap l.StuckFor f; count = j; state = t; text = text; events = events; comes = g; at = at; sticks = sticks }),
    )
    back k a last out told e (l.Unfinished later on more) r (j, still, f, le) = absurd (not_on k j a last still out on told more (omega (arith, le)) e f)

    ended_with : (ran : c.Ran) (meant : c.Meant) → c.meant_by steps ran ≡ Some meant → (a : c.Ending) × (last : Core) × (out : List ℕ) × (told : List Event) × (ran ≡ c.Ended a last out told) × (c_meant a last out told ≡ meant)
    unfolding c_meant
    ended_with (c.Ended a last out told) meant e = (a, last, out, told, refl, cc)
    ended_with (c.Unfinished core out told) meant e = absurd (cc)

    pub comes_back : (c_meaning : c.Meant) → c.CMeans (lowered p) args steps c_meaning → (meant : l.Meant) × l.LMeans p args steps meant × (SameMeant meant c_meaning ⊎ IsStuckAtLink p args steps meant)
    comes_back c_meaning (k, e) = from (ended_with (c_run (lowered p) args k (c_machine.start (lowered p) steps) [] []) c_meaning e)
      where
        from : (a : c.Ending) × (last : Core) × (out : List ℕ) × (told : List Event) × (c_run (lowered p) args k (c_machine.start (lowered p) steps) [] [] ≡ c.Ended a last out told) × (c_meant a last out told ≡ c_meaning)
            → (meant : l.Meant) × l.LMeans p args steps meant × (SameMeant meant c_meaning ⊎ IsStuckAtLink p args steps meant)
        from (a, last, out, told, f, g) =
            subst (λ x. (meant : l.Meant) × l.LMeans p args steps meant × (SameMeant meant x ⊎ IsStuckAtLink p args steps meant)) g (back k a last out told f (l_run p args (3 * k + 3) (start p steps) [] []) refl (whole (3 * k + 3)))

  -- ---- runs that do not end, and programs that are never stuck

  pub goes_on : (steps : ℕ) → ((k : ℕ) → l.RunsOn k p args steps) → (k : ℕ) → c.RunsOn k (lowered p) args steps
  goes_on steps on k = none (c.within (lowered p) args steps k) refl
    where
      none : (o : Option c.Meant) → c.within (lowered p) args steps k ≡ o → o ≡ None
      none None e = refl
      none (Some meant) e = let m = comes_back steps meant (k, e) in absurd (let f : None ≡ Some m.0 = sym (on m.1.0) ∙ m.1.1 in cc)

  module _ (never : NeverStuck p) (steps : ℕ) where
    is_set : (meant : l.Meant) → l.LMeans p args steps meant → IsStuckAtLink p args steps meant → ⊥
    is_set meant h e = subst l.comes e.ending (never args steps meant h)

    pub exactly_forth : (meant : l.Meant) → l.LMeans p args steps meant → (c_meaning : c.Meant) × c.CMeans (lowered p) args steps c_meaning × SameMeant meant c_meaning
    exactly_forth meant h = one (ends_alike steps meant h)
      where
        one : ((c_meaning : c.Meant) × c.CMeans (lowered p) args steps c_meaning × SameMeant meant c_meaning) ⊎ IsStuckAtLink p args steps meant → (c_meaning : c.Meant) × c.CMeans (lowered p) args steps c_meaning × SameMeant meant c_meaning
        one (inl m) = m
        one (inr e) = absurd (is_set meant h e)

    pub exactly_back : (c_meaning : c.Meant) → c.CMeans (lowered p) args steps c_meaning → (meant : l.Meant) × l.LMeans p args steps meant × SameMeant meant c_meaning
    exactly_back c_meaning h = one (comes_back steps c_meaning h)
      where
        one : (meant : l.Meant) × l.LMeans p args steps meant × (SameMeant meant c_meaning ⊎ IsStuckAtLink p args steps meant) → (meant : l.Meant) × l.LMeans p args steps meant × SameMeant meant c_meaning
        one (meant, h, inl m) = (meant, h, m)
        one (meant, h, inr e) = absurd (is_set meant h e)

    pub goes_on_too : ((k : ℕ) → c.RunsOn k (lowered p) args steps) → (k : ℕ) → l.RunsOn k p args steps
    goes_on_too on k = none (l.within p args steps k) refl
      where
        none : (o : Option l.Meant) → l.within p args steps k ≡ o → o ≡ None
        none None e = refl
        none (Some meant) e = let m = exactly_forth meant (k, e) in absurd (let f : None ≡ Some m.0 = sym (on m.1.0) ∙ m.1.1 in cc)

pub named : (p : LlProgram) → IsWellTyped p → (g : ℕ) (graph : LlGraph) → slice_get p.graphs g ≡ Some graph → IsFunctionOf p g graph
named p ok g graph e = let entry = entry_of p ok in record { function = function_code (order_of p) graph; at = order_at (function_code (order_of p)) p entry.0 entry.1 g graph e; name = refl }

pub as_many : (p : LlProgram) → IsWellTyped p → length (lowered p).functions ≡ length p.graphs
as_many p ok = let entry = entry_of p ok in order_count (function_code (order_of p)) p entry.0 entry.1
