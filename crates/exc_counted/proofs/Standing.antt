-- Each state of a run has one of the explicit program's run that stands for it; in those no static names a block.
use Rattle.std.proofs.Common.{◌≡◌, ℕ, zero, suc, ◌+◌, false, List, [], ◌∷◌, ◌++◌, refl, sym, ap, ◌∙◌, subst, arith}
use Rattle.csub_tree.specs.State.{Value, Unset, Word, Byte, Flag, Fun, Null, Ptr, Static, Core, Event}
use Rattle.csub_tree.specs.Statement.{read}
use Rattle.ll_code.specs.State.{State, Calling, At, Returning, Throwing, Next, Goes, Puts, Tells, Ends, Sticks}
use Rattle.ll_code.specs.Machine.{step, start}
use Rattle.ll_code.specs.Meaning.{Ran, Unfinished, Ended, run, follow}
use Rattle.ll_code.specs.Typed.{IsWellTyped}
use Rattle.ll_code.specs.declared.program.LlStage.TheVariants as stage
use Rattle.ll_code.specs.declared.program.LlProgram.{LlProgram}
use Rattle.ll_laws.specs.States.{StateFits, NextFits}
use Rattle.ll_laws.proofs.Steps.{step_fits}
use Rattle.ll_laws.proofs.Runs.{start_fits}
use Rattle.ll_held.specs.Held.{times}
use Rattle.ll_held.specs.Roots.{core_of}
use Rattle.ll_held.specs.Places.{IsPlaced}
use Rattle.ll_held.specs.Quiet.{StaticsAreApart}
use Rattle.ll_held.proofs.Placing.{NextPlaced, step_placed, start_placed}
use Rattle.ll_points.specs.Agrees.{slots_of}
use Rattle.ll_points.specs.Points.{StateLeads, NextLeads}
use Rattle.ll_points.proofs.Runs.{one_step, whole_run_leads}
use Rattle.exc_transform.specs.Explicit.{graphs_calm}
use Rattle.exc_transform.specs.Pieces.{explicit}
use Rattle.exc_laws.specs.Ready.{IsClosed, IsReadyOn}
use Rattle.exc_laws.specs.Stands.{Stands}
use Rattle.exc_laws.specs.Follows.{Does, Follows}
use Rattle.exc_laws.proofs.Steps.{step_follows}
use Rattle.exc_laws.proofs.Whole.{ReadyFrom, later_ready, does_placed, one_more}
use Rattle.refcount_ready.specs.Along.{EachState, LeavesStatics}
use Rattle.refcount_ready.specs.Programs.{CanBeCounted}
use Rattle.refcount_ready.proofs.Keeps.{CoreKeeps, StateKeeps, NextKeeps}
use Rattle.refcount_ready.proofs.Stepping.{step_keeps}
use Rattle.refcount_ready.proofs.Whole.{start_keeps}

not_yet : (q : LlProgram) (args : List (List ℕ)) (s : State) (text : List ℕ) (events : List Event) → run q args 0 s text events ≡ Unfinished s text events
unfolding run
not_yet q args s text events = refl

module _ (p : LlProgram) (ok : IsWellTyped p) (raw : p.stage ≡ stage.Raw) (raises : graphs_calm p.graphs ≡ false) (closed : IsClosed p) (args : List (List ℕ)) where
  -- the explicit program comes from this state to one that stands for the other, with this put and told
  abbrev pub ComesFor : State → List ℕ → List Event → State → List ℕ → List Event → Type 0
  ComesFor x text events t on more = (j : ℕ) × (y : State) × (run (explicit p) args j x text events ≡ Unfinished y on more) × Stands p t y

  moved : (x : State) (next : Next) (d : Does p args x next) (text : List ℕ) (events : List Event) (m : ℕ) → run (explicit p) args (m + (1 + d.count)) x text events ≡ follow (run (explicit p) args m) text events next
  moved x next d text events m =
      (let e : m + (1 + d.count) ≡ suc m + d.count = omega arith in ap (λ k. run (explicit p) args k x text events) e) ∙ d.leads.by (suc m) text events ∙ one_more (explicit p) args m d.later text events
      ∙ ap (follow (run (explicit p) args m) text events) d.does

  before : (x later t : State) (text on_text on : List ℕ) (events on_events more : List Event) (count : ℕ) → ((m : ℕ) → run (explicit p) args (m + count) x text events ≡ run (explicit p) args m later on_text on_events)
      → ComesFor later on_text on_events t on more → ComesFor x text events t on more
  before x later t text on_text on events on_events more count move (j, y, e, stands) = (j + count, y, move j ∙ e, stands)

  comes_from : (k : ℕ) (s x t : State) (text on : List ℕ) (events more : List Event) → Stands p s x → IsPlaced p s → IsPlaced (explicit p) x → StateFits p s → ReadyFrom p ok raw raises closed args s text events
      → run p args k s text events ≡ Unfinished t on more → ComesFor x text events t on more
  comes_from zero s x t text on events more stands place x_place fit ready e =
      let f : Unfinished s text events ≡ Unfinished t on more = sym (not_yet p args s text events) ∙ e in
      let a : s ≡ t = cc in let b : text ≡ on = cc in let c : events ≡ more = cc in
      (0, x, not_yet (explicit p) args x text events ∙ ap (λ l. Unfinished x l events) b ∙ ap (Unfinished x on) c, subst (λ s. Stands p s x) a stands)
  comes_from (suc k) s x t text on events more stands place x_place fit ready e =
      by (comes_from k) (step p args s) refl (step_follows p ok raw raises closed args s x stands place x_place fit (ready 0 s text events (not_yet p args s text events))) (step_placed p args s place) (step_fits p ok args s fit)
      (sym (one_more p args k s text events) ∙ e)
    where
      by : ((s x t : State) (text on : List ℕ) (events more : List Event) → Stands p s x → IsPlaced p s → IsPlaced (explicit p) x → StateFits p s → ReadyFrom p ok raw raises closed args s text events
          → run p args k s text events ≡ Unfinished t on more → ComesFor x text events t on more)
          → (next : Next) → step p args s ≡ next → Follows p args x next → NextPlaced p next → NextFits p next → follow (run p args k) text events next ≡ Unfinished t on more → ComesFor x text events t on more
      by go (Goes u) is (later, d, u_stands) u_place u_fit f =
          before x later t text text on events events more (1 + d.count) (moved x (Goes later) d text events)
          (go u later t text on events more u_stands u_place (does_placed p ok raw raises closed args x (Goes later) d x_place) u_fit
          (λ j v a b i. later_ready p ok raw raises closed args s text events ready j v a b (ap (follow (run p args j) text events) is ∙ i)) f)
      by go (Puts byte u) is (later, d, u_stands) u_place u_fit f =
          before x later t text (text ++ byte ∷ []) on events events more (1 + d.count) (moved x (Puts byte later) d text events)
          (go u later t (text ++ byte ∷ []) on events more u_stands u_place (does_placed p ok raw raises closed args x (Puts byte later) d x_place) u_fit
          (λ j v a b i. later_ready p ok raw raises closed args s text events ready j v a b (ap (follow (run p args j) text events) is ∙ i)) f)
      by go (Tells event u) is (later, d, u_stands) u_place u_fit f =
          before x later t text text on events (events ++ event ∷ []) more (1 + d.count) (moved x (Tells event later) d text events)
          (go u later t text on (events ++ event ∷ []) more u_stands u_place (does_placed p ok raw raises closed args x (Tells event later) d x_place) u_fit
          (λ j v a b i. later_ready p ok raw raises closed args s text events ready j v a b (ap (follow (run p args j) text events) is ∙ i)) f)
      by go (Ends outcome core) is d u_place u_fit f = absurd (cc)
      by go (Sticks reason) is d u_place u_fit f = absurd (cc)

  pub comes_along : (steps : ℕ) → IsReadyOn p args steps → (k : ℕ) (t : State) (on : List ℕ) (more : List Event) → run p args k (start p steps) [] [] ≡ Unfinished t on more → ComesFor (start (explicit p) steps) [] [] t on more
  comes_along steps ready k t on more e =
      comes_from k (start p steps) (start (explicit p) steps) t [] on [] more
      (record { called = refl; given = refl; beside = record { function = refl; blocks = refl; statics = refl; steps = refl }; clear = (refl, refl); waiting = tt }) (start_placed p args steps) (start_placed (explicit p) args steps)
      (start_fits p ok steps) ready e

-- ---- statics that name no block

none_times : (b : ℕ) (values : List Value) → ((j m : ℕ) → read values j ≡ Ptr m → ⊥) → times b values ≡ 0
none_times b [] h = refl
none_times b (Ptr n ∷ values) h = absurd (h 0 n refl)
none_times b (Unset ∷ values) h = none_times b values (λ j m e. h (suc j) m e)
none_times b (Word z ∷ values) h = none_times b values (λ j m e. h (suc j) m e)
none_times b (Byte z ∷ values) h = none_times b values (λ j m e. h (suc j) m e)
none_times b (Flag z ∷ values) h = none_times b values (λ j m e. h (suc j) m e)
none_times b (Fun f ∷ values) h = none_times b values (λ j m e. h (suc j) m e)
none_times b (Null ∷ values) h = none_times b values (λ j m e. h (suc j) m e)
none_times b (Static g ∷ values) h = none_times b values (λ j m e. h (suc j) m e)

module _ (q : LlProgram) (can : CanBeCounted q) (args : List (List ℕ)) where
  abbrev WritesFrom : State → List ℕ → List Event → Type 0
  WritesFrom s text events = (j : ℕ) (t : State) (on : List ℕ) (more : List Event) → run q args j s text events ≡ Unfinished t on more → LeavesStatics q t

  abbrev RanKeeps : Ran → Type 0
  RanKeeps (Unfinished s text events) = StateKeeps q s
  RanKeeps (Ended ending left text events) = Unit {0}

  record Kept (s : State) : Type 0 where
    fits : StateFits q s
    leads : StateLeads q (slots_of q) s
    placed : IsPlaced q s
    keeps : StateKeeps q s

  on_next : (k : ℕ) → ((s : State) (text : List ℕ) (events : List Event) → Kept s → WritesFrom s text events → RanKeeps (run q args k s text events)) → (text : List ℕ) (events : List Event) (next : Next)
      → NextFits q next → NextLeads q (slots_of q) next → NextPlaced q next → NextKeeps q next
      → ((j : ℕ) (t : State) (on : List ℕ) (more : List Event) → follow (run q args j) text events next ≡ Unfinished t on more → LeavesStatics q t) → RanKeeps (follow (run q args k) text events next)
  on_next k go text events (Goes s) f l h w writes = go s text events (record { fits = f; leads = l; placed = h; keeps = w }) writes
  on_next k go text events (Puts byte s) f l h w writes = go s (text ++ byte ∷ []) events (record { fits = f; leads = l; placed = h; keeps = w }) writes
  on_next k go text events (Tells event s) f l h w writes = go s text (events ++ event ∷ []) (record { fits = f; leads = l; placed = h; keeps = w }) writes
  on_next k go text events (Ends outcome core) f l h w writes = tt
  on_next k go text events (Sticks reason) f l h w writes = tt

  run_keeps : (k : ℕ) (s : State) (text : List ℕ) (events : List Event) → Kept s → WritesFrom s text events → RanKeeps (run q args k s text events)
  unfolding run
  run_keeps zero s text events c writes = c.keeps
  run_keeps (suc k) s text events c writes =
      on_next k (run_keeps k) text events (step q args s) (step_fits q can.typed args s c.fits) (one_step q (slots_of q) can.typed can.agrees args s c.fits c.leads) (step_placed q args s c.placed)
      (step_keeps q can.typed (slots_of q) can.agrees can.leads can.countable can.inputs args s c.fits c.leads c.placed (writes 0 s text events (not_yet q args s text events)) c.keeps)
      (λ j t on more e. writes (suc j) t on more (one_more q args j s text events ∙ e))

  apart_in : (core : Core) → CoreKeeps q core → StaticsAreApart core
  apart_in core k = λ g block e b. none_times b block.fields (k.apart g block e).0

  apart_of : (s : State) → StateKeeps q s → StaticsAreApart (core_of s)
  apart_of (Calling f values frames core) (g, k) = apart_in core k.keeps
  apart_of (At ops e frames core) (g, k) = apart_in core k.keeps
  apart_of (Returning value frames core) (g, k) = apart_in core k.keeps
  apart_of (Throwing value frames core) k = absurd k

  pub state_apart : (steps : ℕ) → EachState (LeavesStatics q) q args steps → EachState (λ s. StaticsAreApart (core_of s)) q args steps
  unfolding run
  state_apart steps writes = λ k s text events e.
      apart_of s (subst RanKeeps e (run_keeps k (start q steps) [] [] (record { fits = start_fits q can.typed steps; leads = whole_run_leads q (slots_of q) can.typed can.agrees args steps 0; placed = start_placed q args steps; keeps = start_keeps q can.typed steps }) writes))
