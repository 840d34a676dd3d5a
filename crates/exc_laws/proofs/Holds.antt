-- Whole runs: the explicit program holds no more than the program, and its small runs stay small.
use Rattle.std.proofs.Common.{◌≡◌, ◌≤◌, ℕ, zero, suc, Bool, true, false, List, [], ◌∷◌, ◌++◌, refl, sym, ap, ◌∙◌, subst, arith}
use Rattle.std.specs.Prelude.{slice_get}
use Rattle.rpy_base.specs.declared.outcome.Outcome.{Outcome}
use Rattle.csub_tree.specs.State.{Core, Event}
use Rattle.ll_code.specs.State.{Frame, State, Calling, At, Returning, Throwing, Next, Goes, Puts, Tells, Ends, Sticks}
use Rattle.ll_code.specs.Machine.{step, start}
use Rattle.ll_code.specs.Meaning.{Unfinished, follow, run}
use Rattle.ll_code.specs.Typed.{IsWellTyped}
use Rattle.ll_code.specs.declared.program.LlStage.TheVariants as stage
use Rattle.ll_code.specs.declared.program.LlProgram.{LlProgram}
use Rattle.ll_laws.specs.States.{StateFits, NextFits}
use Rattle.ll_laws.proofs.Steps.{step_fits}
use Rattle.ll_laws.proofs.Runs.{start_fits}
use Rattle.ll_live.specs.Live.{live as reads_on}
use Rattle.ll_held.specs.Roots.{kept, waits_for, waiting_roots, slots, roots, core_of}
use Rattle.ll_held.specs.Held.{references, Held}
use Rattle.ll_held.specs.Places.{IsPlaced}
use Rattle.ll_held.specs.Quiet.{Calm, Stay, Go, StaticsAreApart, frames_of, Near}
use Rattle.ll_held.proofs.Keeping.{held_on}
use Rattle.ll_held.proofs.Placing.{NextPlaced, step_placed, start_placed}
use Rattle.ll_held.proofs.Calming.{near_self, near_then, quiet_near}
use Rattle.exc_transform.specs.Explicit.{graphs_calm, restaged}
use Rattle.exc_transform.specs.Pieces.{explicit}
use Rattle.exc_transform.proofs.Without.{explicit_same}
use Rattle.exc_laws.specs.Ready.{IsClosed}
use Rattle.exc_laws.specs.Stands.{Stands}
use Rattle.exc_laws.specs.Follows.{Follows}
use Rattle.exc_laws.specs.Alike.{Allows}
use Rattle.exc_laws.specs.Holds.{HoldsNoMore, Found, AreApartOn}
use Rattle.exc_laws.proofs.Without.{step_same, run_same}
use Rattle.exc_laws.proofs.WellTyped.{explicit_typed}
use Rattle.exc_laws.proofs.Steps.{step_follows}
use Rattle.exc_laws.proofs.Roots.{stands_held, waiting_fewer, explicit_reads}
use Rattle.exc_laws.proofs.Whole.{ReadyFrom, does_placed, one_more}

module _ (p : LlProgram) (ok : IsWellTyped p) (raw : p.stage ≡ stage.Raw) (raises : graphs_calm p.graphs ≡ false) (closed : IsClosed p) (args : List (List ℕ)) where
  -- ---- a state some quiet steps behind one that stands

  pub beside_blocks : (s x : State) → Stands p s x → ((core_of x).blocks ≡ (core_of s).blocks) × ((core_of x).statics ≡ (core_of s).statics)
  beside_blocks (Calling f values frames core) (Calling x_f x_values x_frames x_core) s = (s.beside.blocks, s.beside.statics)
  beside_blocks (At ops e frames core) (At x_ops x_exit x_frames x_core) (graph, s) = (s.beside.blocks, s.beside.statics)
  beside_blocks (Returning value frames core) (Returning x_value x_frames x_core) s = (s.beside.blocks, s.beside.statics)
  beside_blocks (Throwing value frames core) (Returning x_value x_frames x_core) s = (s.beside.blocks, s.beside.statics)
  beside_blocks s x stands = absurd stands

  stands_fewer : (s x : State) → Stands p s x → references (waiting_roots (explicit p) (frames_of x)) ≤ references (waiting_roots p (frames_of s))
  stands_fewer (Calling f values frames core) (Calling x_f x_values x_frames x_core) s = waiting_fewer p f frames x_frames s.waiting
  stands_fewer (At ops e frames core) (At x_ops x_exit x_frames x_core) (graph, s) = waiting_fewer p core.function frames x_frames s.waiting
  stands_fewer (Returning value frames core) (Returning x_value x_frames x_core) s = waiting_fewer p core.function frames x_frames s.waiting
  stands_fewer (Throwing value frames core) (Returning x_value x_frames x_core) s = waiting_fewer p core.function frames x_frames s.waiting
  stands_fewer s x stands = absurd stands

  near_holds : (s x y : State) → Stands p s x → StaticsAreApart (core_of s) → Near (explicit p) x y → HoldsNoMore p s y
  near_holds s x y stands apart near = record {
    blocks = near.blocks ∙ same;
    held = λ b h.
        held_on (core_of s).blocks (roots (explicit p) x) (roots p s) (stands_held p s x stands apart) b
        (subst (λ blocks. Held blocks (roots (explicit p) x) b) same
        (held_on (core_of x).blocks (roots (explicit p) y) (roots (explicit p) x) near.held b (subst (λ blocks. Held blocks (roots (explicit p) y) b) near.blocks h)));
    waiting = (let a : references (waiting_roots (explicit p) (frames_of y)) ≤ references (waiting_roots (explicit p) (frames_of x)) = near.waiting in let b : references (waiting_roots (explicit p) (frames_of x)) ≤ references (waiting_roots p (frames_of s)) = stands_fewer s x stands in omega (arith, a, b));
  }
    where
      same : (core_of x).blocks ≡ (core_of s).blocks
      same = (beside_blocks s x stands).0

  typed : IsWellTyped (explicit p)
  typed = explicit_typed p ok raw

  apart_same : (x y : State) → (core_of y).statics ≡ (core_of x).statics → StaticsAreApart (core_of x) → StaticsAreApart (core_of y)
  apart_same x y e apart g block i = apart g block (ap (λ s. slice_get s g) (sym e) ∙ i)

  -- ---- runs

  abbrev ApartFrom : State → List ℕ → List Event → Type 0
  ApartFrom s text events = (j : ℕ) (t : State) (on : List ℕ) (more : List Event) → run p args j s text events ≡ Unfinished t on more → StaticsAreApart (core_of t)

  unfinished : {a b : State} {text on : List ℕ} {events more : List Event} → Unfinished a text events ≡ Unfinished b on more → (a ≡ b) × (text ≡ on) × (events ≡ more)
  unfinished e = (cc, cc, cc)

  none : (q : LlProgram) (s : State) (text : List ℕ) (events : List Event) → run q args 0 s text events ≡ Unfinished s text events
  unfolding run
  none q s text events = refl

  module _ (y : State) (on : List ℕ) (more : List Event) where
    abbrev FoundFrom : State → List ℕ → List Event → Type 0
    FoundFrom s text events = Found p args s text events y on more

    -- where the explicit program ends, the program does
    abbrev Last : State → State → Type 0
    Last s cur = (outcome : Outcome) (core : Core) → step (explicit p) args cur ≡ Ends outcome core → (other : Core) × (step p args s ≡ Ends outcome other)

    here : (s x cur : State) (text : List ℕ) (events : List Event) → Stands p s x → StaticsAreApart (core_of s) → Near (explicit p) x cur → Last s cur → run (explicit p) args 0 cur text events ≡ Unfinished y on more → FoundFrom s text events
    here s x cur text events stands apart near last e =
        let u = unfinished (sym (none (explicit p) cur text events) ∙ e) in
        record { count = 0; state = s; ran = none p s text events ∙ ap (λ t. Unfinished s t events) u.1 ∙ ap (Unfinished s on) u.2; holds = subst (HoldsNoMore p s) u.0 (near_holds s x cur stands apart near); ends = subst (Last s) u.0 last }

    -- along the quiet steps, and behind them
    walk : (s x cur mid : State) (text : List ℕ) (events : List Event) → Stands p s x → StaticsAreApart (core_of s) → Near (explicit p) x cur → StateFits (explicit p) cur → Calm (explicit p) args cur mid → Last s mid
        → (k : ℕ) → ((j : ℕ) → suc j ≤ k → StateFits (explicit p) mid → follow (run (explicit p) args j) text events (step (explicit p) args mid) ≡ Unfinished y on more → FoundFrom s text events)
        → run (explicit p) args k cur text events ≡ Unfinished y on more → FoundFrom s text events
    walk s x cur mid text events stands apart near fits (Stay _) last zero go e = here s x cur text events stands apart near last e
    walk s x cur mid text events stands apart near fits (Stay _) last (suc k) go e = go k (omega arith) fits (sym (one_more (explicit p) args k cur text events) ∙ e)
    walk s x cur mid text events stands apart near fits (Go _ t _ stepped quiet calm) last zero go e = here s x cur text events stands apart near (λ outcome core f. absurd (let g : Goes t ≡ Ends outcome core = sym stepped ∙ f in cc)) e
    walk s x cur mid text events stands apart near fits (Go _ t _ stepped quiet calm) last (suc k) go e =
        walk s x t mid text events stands apart
        (near_then (explicit p) x cur t near (quiet_near (explicit p) (explicit_reads p raises closed) args cur t fits (apart_same x cur near.statics (apart_same s x (beside_blocks s x stands).1 apart)) quiet stepped))
        (subst (NextFits (explicit p)) stepped (step_fits (explicit p) typed args cur fits)) calm last k (λ j le. go j (omega (arith, le))) (sym (ap (follow (run (explicit p) args k) text events) stepped) ∙ sym (one_more (explicit p) args k cur text events) ∙ e)

    -- one step of the program before
    before : (s t : State) (text on_text : List ℕ) (events on_events : List Event) → ((j : ℕ) → run p args (suc j) s text events ≡ run p args j t on_text on_events) → FoundFrom t on_text on_events → FoundFrom s text events
    before s t text on_text events on_events same f = record { count = suc f.count; state = f.state; ran = same f.count ∙ f.ran; holds = f.holds; ends = f.ends }

    -- what is found some steps on, where fewer steps are left
    abbrev Again : ℕ → Type 0
    Again k = (j : ℕ) → suc j ≤ k → (s x : State) (text : List ℕ) (events : List Event) → Stands p s x → IsPlaced p s → IsPlaced (explicit p) x → StateFits p s → StateFits (explicit p) x → ReadyFrom p ok raw raises closed args s text events
        → ApartFrom s text events → run (explicit p) args j x text events ≡ Unfinished y on more → FoundFrom s text events

    from_state : (k : ℕ) → Again k → (s x : State) (text : List ℕ) (events : List Event) → Stands p s x → IsPlaced p s → IsPlaced (explicit p) x → StateFits p s → StateFits (explicit p) x → ReadyFrom p ok raw raises closed args s text events
        → ApartFrom s text events → run (explicit p) args k x text events ≡ Unfinished y on more → FoundFrom s text events
    from_state k again s x text events stands place x_place fit x_fit ready apart e =
        by (step p args s) refl (step_follows p ok raw raises closed args s x stands place x_place fit (ready 0 s text events (none p s text events))) (step_placed p args s place) (step_fits p ok args s fit)
      where
        ready_later : (t : State) (on_text : List ℕ) (on_events : List Event) → ((j : ℕ) → run p args (suc j) s text events ≡ run p args j t on_text on_events) → ReadyFrom p ok raw raises closed args t on_text on_events
        ready_later t on_text on_events same j u a b i = ready (suc j) u a b (same j ∙ i)

        apart_later : (t : State) (on_text : List ℕ) (on_events : List Event) → ((j : ℕ) → run p args (suc j) s text events ≡ run p args j t on_text on_events) → ApartFrom t on_text on_events
        apart_later t on_text on_events same j u a b i = apart (suc j) u a b (same j ∙ i)

        no_end : (next : Next) → ((outcome : Outcome) (core : Core) → next ≡ Ends outcome core → ⊥) → (mid : State) → step (explicit p) args mid ≡ next → Last s mid
        no_end next never mid is outcome core f = absurd (never outcome core (sym is ∙ f))

        by : (next : Next) → step p args s ≡ next → Follows p args x next → NextPlaced p next → NextFits p next → FoundFrom s text events
        by (Goes t) is (later, d, later_stands) t_place t_fit =
            walk s x x d.later text events stands (apart 0 s text events (none p s text events)) (near_self (explicit p) x) x_fit d.leads.calm (no_end (Goes later) (λ outcome core f. cc) d.later d.does) k
            (λ j lt mid_fit i.
            (let same : (j : ℕ) → run p args (suc j) s text events ≡ run p args j t text events = λ j. one_more p args j s text events ∙ ap (follow (run p args j) text events) is in
            before s t text text events events same
            (again j lt t later text events later_stands t_place (does_placed p ok raw raises closed args x (Goes later) d x_place) t_fit
            (subst (NextFits (explicit p)) d.does (step_fits (explicit p) typed args d.later mid_fit)) (ready_later t text events same) (apart_later t text events same)
            (sym (ap (follow (run (explicit p) args j) text events) d.does) ∙ i)))) e
        by (Puts byte t) is (later, d, later_stands) t_place t_fit =
            walk s x x d.later text events stands (apart 0 s text events (none p s text events)) (near_self (explicit p) x) x_fit d.leads.calm (no_end (Puts byte later) (λ outcome core f. cc) d.later d.does) k
            (λ j lt mid_fit i.
            (let same : (j : ℕ) → run p args (suc j) s text events ≡ run p args j t (text ++ byte ∷ []) events = λ j. one_more p args j s text events ∙ ap (follow (run p args j) text events) is in
            before s t text (text ++ byte ∷ []) events events same
            (again j lt t later (text ++ byte ∷ []) events later_stands t_place (does_placed p ok raw raises closed args x (Puts byte later) d x_place) t_fit
            (subst (NextFits (explicit p)) d.does (step_fits (explicit p) typed args d.later mid_fit)) (ready_later t (text ++ byte ∷ []) events same) (apart_later t (text ++ byte ∷ []) events same)
            (sym (ap (follow (run (explicit p) args j) text events) d.does) ∙ i)))) e
        by (Tells event t) is (later, d, later_stands) t_place t_fit =
            walk s x x d.later text events stands (apart 0 s text events (none p s text events)) (near_self (explicit p) x) x_fit d.leads.calm (no_end (Tells event later) (λ outcome core f. cc) d.later d.does) k
            (λ j lt mid_fit i.
            (let same : (j : ℕ) → run p args (suc j) s text events ≡ run p args j t text (events ++ event ∷ []) = λ j. one_more p args j s text events ∙ ap (follow (run p args j) text events) is in
            before s t text text events (events ++ event ∷ []) same
            (again j lt t later text (events ++ event ∷ []) later_stands t_place (does_placed p ok raw raises closed args x (Tells event later) d x_place) t_fit
            (subst (NextFits (explicit p)) d.does (step_fits (explicit p) typed args d.later mid_fit)) (ready_later t text (events ++ event ∷ []) same) (apart_later t text (events ++ event ∷ []) same)
            (sym (ap (follow (run (explicit p) args j) text events) d.does) ∙ i)))) e
        by (Ends outcome core) is (x_core, d, same) t_place t_fit =
            walk s x x d.later text events stands (apart 0 s text events (none p s text events)) (near_self (explicit p) x) x_fit d.leads.calm (λ other last f. (core, is ∙ (let g : Ends outcome x_core ≡ Ends other last = sym d.does ∙ f in let h : outcome ≡ other = cc in ap (λ o. Ends o core) h))) k
            (λ j lt mid_fit i. absurd (let f : follow (run (explicit p) args j) text events (Ends outcome x_core) ≡ Unfinished y on more = sym (ap (follow (run (explicit p) args j) text events) d.does) ∙ i in cc)) e
        by (Sticks reason) is d t_place t_fit =
            walk s x x d.later text events stands (apart 0 s text events (none p s text events)) (near_self (explicit p) x) x_fit d.leads.calm (no_end (Sticks reason) (λ outcome core f. cc) d.later d.does) k
            (λ j lt mid_fit i. absurd (let f : follow (run (explicit p) args j) text events (Sticks reason) ≡ Unfinished y on more = sym (ap (follow (run (explicit p) args j) text events) d.does) ∙ i in cc)) e

    at_state : (most k : ℕ) → k ≤ most → (s x : State) (text : List ℕ) (events : List Event) → Stands p s x → IsPlaced p s → IsPlaced (explicit p) x → StateFits p s → StateFits (explicit p) x → ReadyFrom p ok raw raises closed args s text events
        → ApartFrom s text events → run (explicit p) args k x text events ≡ Unfinished y on more → FoundFrom s text events
    at_state zero k le = from_state k (λ j lt. absurd (omega (arith, le, lt)))
    at_state (suc most) k le = from_state k (λ j lt. at_state most j (omega (arith, le, lt)))

-- ---- where nothing raises

module _ (p : LlProgram) where
  waiting_same : (frames : List Frame) → waiting_roots (restaged p) frames ≡ waiting_roots p frames
  waiting_same [] = refl
  waiting_same (frame ∷ frames) = ap (λ l. kept (waits_for p frame) 0 frame.vars ++ l) (waiting_same frames)

  roots_same : (s : State) → roots (restaged p) s ≡ roots p s
  roots_same (Calling f values frames core) = ap (λ l. values ++ slots core ++ l) (waiting_same frames)
  roots_same (At ops e frames core) = ap (λ l. kept (reads_on ops e) 0 core.vars ++ slots core ++ l) (waiting_same frames)
  roots_same (Returning value frames core) = ap (λ l. value ∷ slots core ++ l) (waiting_same frames)
  roots_same (Throwing value frames core) = ap (λ l. value ∷ slots core ++ l) (waiting_same frames)

  pub same_holds : explicit p ≡ restaged p → (y : State) → HoldsNoMore p y y
  same_holds e y = record {
    blocks = refl;
    held = λ b h. subst (λ l. Held (core_of y).blocks l b) (ap (λ q. roots q y) e ∙ roots_same y) h;
    waiting = (let f : waiting_roots (explicit p) (frames_of y) ≡ waiting_roots p (frames_of y) = ap (λ q. waiting_roots q (frames_of y)) e ∙ waiting_same (frames_of y) in let g : references (waiting_roots (explicit p) (frames_of y)) ≡ references (waiting_roots p (frames_of y)) = ap references f in omega (arith, g));
  }

-- ---- whole runs

pub holds_no_more : (p : LlProgram) → IsWellTyped p → p.stage ≡ stage.Raw → (args : List (List ℕ)) (steps : ℕ) → Allows p args steps → AreApartOn p args steps → (k : ℕ) (y : State) (on : List ℕ) (more : List Event)
    → run (explicit p) args k (start (explicit p) steps) [] [] ≡ Unfinished y on more → Found p args (start p steps) [] [] y on more
holds_no_more p ok raw args steps allows apart k y on more e = one (graphs_calm p.graphs) refl
  where
    one : (b : Bool) → graphs_calm p.graphs ≡ b → Found p args (start p steps) [] [] y on more
    one true f = record {
      count = k;
      state = y;
      ran = sym (run_same p args k (start p steps) [] []) ∙ sym (ap (λ q. run q args k (start q steps) [] []) (explicit_same p f)) ∙ e;
      holds = same_holds p (explicit_same p f) y;
      ends = λ outcome core g. (core, sym (step_same p args y) ∙ sym (ap (λ q. step q args y) (explicit_same p f)) ∙ g);
    }
    one false f =
        at_state p ok raw f allows.closed args y on more k k (omega arith) (start p steps) (start (explicit p) steps) [] []
        (record { called = refl; given = refl; beside = record { function = refl; blocks = refl; statics = refl; steps = refl }; clear = (refl, refl); waiting = tt }) (start_placed p args steps) (start_placed (explicit p) args steps)
        (start_fits p ok steps) (start_fits (explicit p) (explicit_typed p ok raw) steps) allows.ready apart e
