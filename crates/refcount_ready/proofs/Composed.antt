-- The laws of counted programs, with nothing asked of their states but that they are small and leave statics alone.
use Rattle.std.proofs.Common.{◌≡◌, ◌<◌, ℕ, zero, suc, ◌+◌, false, List, [], ◌∷◌, Option, Some, None, refl, sym, ap, ◌∙◌, subst, arith}
use Rattle.std.specs.Prelude.{cond}
use Rattle.csub_tree.specs.State.{Value, Unset, Word, Byte, Flag, Fun, Null, Ptr, Static, Block, Core, Event}
use Rattle.ll_code.specs.Machine.{start}
use Rattle.ll_code.specs.Meaning.{Unfinished, Meant, LMeans, RunsOn, run, comes}
use Rattle.ll_code.specs.State.{Frame, State, Calling, At, Returning, Throwing}
use Rattle.ll_code.specs.declared.program.LlType.{LlType}
use Rattle.ll_code.specs.declared.program.LlType.TheVariants as type
use Rattle.ll_code.specs.declared.program.LlProgram.{LlProgram}
use Rattle.ll_held.specs.Held.{times, is_block, Reaches, Held, Root, Cycle, From}
use Rattle.ll_held.specs.Roots.{roots, core_of}
use Rattle.ll_laws.specs.Fits.{Fits}
use Rattle.ll_laws.specs.States.{RanFits, StateFits}
use Rattle.ll_laws.proofs.Runs.{whole_run_fits}
use Rattle.ll_laws.proofs.Values.{and_left}
use Rattle.ll_live.specs.Live.{live}
use Rattle.ll_points.specs.Agrees.{slots_of}
use Rattle.refcount_transform.specs.Plan.{plan_of, reference_given}
use Rattle.refcount_transform.specs.Changes.{around_of}
use Rattle.refcount_transform.specs.Counted.{counted}
use Rattle.refcount_laws.specs.Ghost.{Ghost, Slot, S, slot_at, shown, count, IsCounted}
use Rattle.refcount_laws.specs.Leaves.{given_to}
use Rattle.refcount_laws.specs.Made.{counts_of}
use Rattle.refcount_laws.specs.Means.{SameMeaning}
use Rattle.refcount_laws.specs.Owned.{owned, hits_by}
use Rattle.refcount_laws.specs.Run.{ReadyAlong, RunStands}
use Rattle.refcount_laws.specs.Touched.{block_in}
use Rattle.refcount_laws.specs.Whole.{Call, StandsFor, beside}
use Rattle.refcount_laws.proofs.Leftover.{edges_of}
use Rattle.refcount_laws.proofs.Meaning.{means_so, ends_so, runs_on_so}
use Rattle.refcount_laws.proofs.Reaching.{there_held}
use Rattle.refcount_laws.proofs.Running.{run_stands}
use Rattle.refcount_laws.proofs.Starting.{ghost, starts_stand}
use Rattle.refcount_ready.specs.Programs.{CanBeCounted, RunsSmall, ComesAlong, LeavesNothing}
use Rattle.refcount_ready.proofs.Room.{owns_at, owns_calling, owns_returning}
use Rattle.refcount_ready.proofs.Whole.{along_all}

module _ (p : LlProgram) (can : CanBeCounted p) (args : List (List ℕ)) (steps : ℕ) (small : RunsSmall p args steps) where
  pub ready_so : (k : ℕ) → ReadyAlong p args k (start p steps)
  ready_so k = along_all p can.typed (slots_of p) can.agrees can.leads can.numbers can.inputs can.countable args steps small.small small.blocks k

  pub means_the_same : (m : Meant) → LMeans p args steps m → comes m.ending → SameMeaning p args steps m
  means_the_same m (k, e) ends = means_so p can.typed (and_left _ _ can.leads) can.inputs args steps k m (ready_so k) e ends

  pub ends_only : ((m : Meant) → LMeans p args steps m → comes m.ending) → (last : Meant) → LMeans (counted p) args steps last → (m : Meant) × LMeans p args steps m × SameMeaning p args steps m
  ends_only ends last means = ends_so p can.typed (and_left _ _ can.leads) can.inputs args steps ready_so ends last means

  pub never_stuck : ((m : Meant) → LMeans p args steps m → comes m.ending) → (last : Meant) → LMeans (counted p) args steps last → comes last.ending
  never_stuck ends last means =
      let w : (m : Meant) × LMeans p args steps m × SameMeaning p args steps m = ends_only ends last means in
      subst comes (sym (ap (λ m. m.ending) (w.2.only last means) ∙ w.2.ending)) (ends w.0 w.1)

  pub runs_on : ((k : ℕ) → RunsOn k p args steps) → (k : ℕ) → RunsOn k (counted p) args steps
  runs_on on k = runs_on_so p can.typed (and_left _ _ can.leads) can.inputs args steps ready_so on k

  -- ---- what is there

  slot_there : (d : Slot) (block : Block) → shown (counts_of (plan_of p)) d ≡ Some block → 0 < Rattle.refcount_laws.specs.Ghost.count_of d
  slot_there (S zero kind fields items) block e = absurd (cc)
  slot_there (S (suc n) kind fields items) block e = omega arith

  there_at : (s t : State) (calls : List Call) (others : List Frame) (g : Ghost) (h : List (Option Block)) → StandsFor p calls others s t g h → (b : ℕ) (block : Block) → block_in (core_of t).blocks b ≡ Some block → Held (core_of s).blocks (roots p s) b
  there_at (At ops e frames core) t calls others g h both b block is =
      there_held (counts_of (plan_of p)) g.blocks core.blocks (λ r. owned (around_of (plan_of p) both.graph.types) (live ops e) core.vars r + beside p calls frames core r) (roots p (At ops e frames core)) (edges_of p core.blocks core.statics g both.stands.near)
      (owns_at p both.graph.types calls ops e frames others core both.waits).named (λ b. both.counts.blocks b) b (slot_there (slot_at g.blocks b) block (sym (both.stands.shown.at b) ∙ ap (λ s. block_in (core_of s).blocks b) (sym both.is) ∙ is))
  there_at (Calling f values frames core) t calls others g h both b block is =
      there_held (counts_of (plan_of p)) g.blocks core.blocks (λ r. given_to (around_of (plan_of p) both.graph.types) 0 values r + beside p calls frames core r) (roots p (Calling f values frames core)) (edges_of p core.blocks core.statics g both.stands.near)
      (owns_calling p both.graph.types calls f values frames others core both.waits).named (λ b. both.counts.blocks b) b (slot_there (slot_at g.blocks b) block (sym (both.stands.shown.at b) ∙ ap (λ s. block_in (core_of s).blocks b) (sym both.is) ∙ is))
  there_at (Returning value frames core) t calls others g h both b block is =
      there_held (counts_of (plan_of p)) g.blocks core.blocks (λ r. hits_by (reference_given (plan_of p).counted (Some both.graph.result)) value r + beside p calls frames core r) (roots p (Returning value frames core)) (edges_of p core.blocks core.statics g both.stands.near)
      (owns_returning p (reference_given (plan_of p).counted (Some both.graph.result)) calls value frames others core both.waits).named (λ b. both.counts.blocks b) b (slot_there (slot_at g.blocks b) block (sym (both.stands.shown.at b) ∙ ap (λ s. block_in (core_of s).blocks b) (sym both.is) ∙ is))
  there_at (Throwing value frames core) t calls others g h both b block is = absurd both

  pub comes_along : (k : ℕ) (s : State) (text : List ℕ) (events : List Event) → run p args k (start p steps) [] [] ≡ Unfinished s text events → ComesAlong p args steps k s text
  comes_along k s text events e =
      by (subst (RunStands p args k (start (counted p) steps) [] []) e (run_stands p can.typed (and_left _ _ can.leads) can.inputs args k [] [] (start p steps) (start (counted p) steps) (ghost p can.typed steps) [] [] [] [] (starts_stand p can.typed steps) (ready_so k) refl))
    where
      by : RunStands p args k (start (counted p) steps) [] [] (Unfinished s text events) → ComesAlong p args steps k s text
      by (j, t, told, enough, runs, made, calls, others, g, h, stands) = record {
        taken = j;
        enough = enough;
        state = t;
        events = told;
        runs = runs;
        calls = calls;
        others = others;
        g = g;
        h = h;
        stands = stands;
        held = there_at s t calls others g h stands;
      }

  -- ---- the end of a run

  no_block : (t : LlType) (made : ℕ) (value : Value) (b : ℕ) → t ≡ type.Signed → Fits p made t value → is_block b value ≡ false
  no_block t made (Ptr m) b e fit = absurd (subst (λ t. Fits p made t (Ptr m)) e fit)
  no_block t made Unset b e fit = refl
  no_block t made (Word z) b e fit = refl
  no_block t made (Byte z) b e fit = refl
  no_block t made (Flag z) b e fit = refl
  no_block t made (Fun z) b e fit = refl
  no_block t made Null b e fit = refl
  no_block t made (Static z) b e fit = refl

  none_times : (value kind exception : Value) (b : ℕ) → is_block b value ≡ false → kind ≡ Null → exception ≡ Null → times b (value ∷ kind ∷ exception ∷ []) ≡ 0
  none_times value kind exception b h e f =
      ap (λ x. times b (value ∷ x ∷ exception ∷ [])) e ∙ ap (λ x. times b (value ∷ Null ∷ x ∷ [])) f ∙ ap (λ c. cond c 1 0) h

  none_held : (blocks : List (Option Block)) (rs : List Value) → ((b : ℕ) → times b rs ≡ 0) → ((b : ℕ) → Reaches blocks b b → ⊥) → (b : ℕ) → Held blocks rs b → ⊥
  none_held blocks rs empty apart b (Root h) = let e : times b rs ≡ 0 = empty b in absurd (omega (arith, e, h))
  none_held blocks rs empty apart b (Cycle c) = apart b c
  none_held blocks rs empty apart b (From h r) = none_held blocks rs empty apart _ h

  pub leaves_nothing : (k : ℕ) (value : Value) (core : Core) (text : List ℕ) (events : List Event) → run p args k (start p steps) [] [] ≡ Unfinished (Returning value [] core) text events → core.exc_type ≡ Null → core.exc_value ≡ Null
      → ((b : ℕ) → Reaches core.blocks b b → ⊥) → LeavesNothing p args steps text
  leaves_nothing k value core text events e kind exception apart = by (subst (RanFits p) e (whole_run_fits p can.typed args steps k)) (comes_along k (Returning value [] core) text events e)
    where
      by : StateFits p (Returning value [] core) → ComesAlong p args steps k (Returning value [] core) text → LeavesNothing p args steps text
      by (t, fit) w = record { taken = w.taken; state = w.state; events = w.events; runs = w.runs; none = λ b. one b (block_in (core_of w.state).blocks b) refl }
        where
          empty : (b : ℕ) → times b (roots p (Returning value [] core)) ≡ 0
          empty b = none_times value core.exc_type core.exc_value b (no_block t _ value b fit.waiting fit.fits) kind exception

          one : (b : ℕ) (o : Option Block) → block_in (core_of w.state).blocks b ≡ o → o ≡ None
          one b None is = refl
          one b (Some block) is = absurd (none_held core.blocks (roots p (Returning value [] core)) empty apart b (w.held b block is))
