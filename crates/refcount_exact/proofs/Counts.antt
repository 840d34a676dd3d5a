-- In a state that stands for one of the program each count is exact.
use Rattle.std.proofs.Common.{◌≡◌, ◌<◌, ◌≤◌, ℕ, zero, suc, ◌+◌, pos, Bool, true, List, [], ◌∷◌, Option, Some, sym, ap, ◌∙◌, subst, arith}
use Rattle.csub_tree.specs.State.{Value, Word, Ptr, Block, Core, Event}
use Rattle.csub_tree.specs.Statement.{read}
use Rattle.ll_code.specs.Machine.{start}
use Rattle.ll_code.specs.Meaning.{Unfinished, run}
use Rattle.ll_code.specs.State.{Frame, State, Calling, At, Returning, Throwing}
use Rattle.ll_code.specs.declared.program.LlProgram.{LlProgram}
use Rattle.ll_held.specs.Held.{times}
use Rattle.ll_held.specs.Roots.{kept, slots, core_of}
use Rattle.ll_live.specs.Live.{live}
use Rattle.ll_laws.specs.Fits.{MemoryFits}
use Rattle.ll_laws.specs.States.{RanFits, StateFits}
use Rattle.ll_laws.proofs.Runs.{whole_run_fits}
use Rattle.ll_points.specs.Agrees.{slots_of}
use Rattle.ll_points.specs.Points.{MemoryLeads, RanLeads, StateLeads}
use Rattle.ll_points.proofs.Runs.{whole_run_leads}
use Rattle.refcount_transform.specs.Plan.{plan_of, reference_given}
use Rattle.refcount_transform.specs.Changes.{Around, around_of, var_referred}
use Rattle.refcount_transform.specs.Counted.{counted}
use Rattle.refcount_laws.specs.Ghost.{Ghost, Slot, S, slot_at, shown, count, count_of, memory, IsCounted}
use Rattle.refcount_laws.specs.Ghost as ghost_
use Rattle.refcount_laws.specs.Leaves.{given_to}
use Rattle.refcount_laws.specs.Made.{counts_of}
use Rattle.refcount_laws.specs.Matches.{Stands}
use Rattle.refcount_laws.specs.Owned.{owns, owned, hits_by}
use Rattle.refcount_laws.specs.Touched.{block_in}
use Rattle.refcount_laws.specs.Whole.{Call, AllWait, StandsFor, slots_own, waits_own, beside}
use Rattle.refcount_ready.specs.Programs.{CanBeCounted, RunsSmall, ComesAlong}
use Rattle.refcount_ready.proofs.Composed.{comes_along}
use Rattle.refcount_exact.specs.Exact.{in_blocks, inner, in_frames, outer, HasCount, IsExact, ComesExact}
use Rattle.refcount_exact.proofs.Hits.{hit_times, by_less, kept_less, occurs_times}
use Rattle.refcount_exact.proofs.Inner.{sums, all_counted, slots_counted}

-- ---- what is owned stands in variables

owned_less : (around : Around) (uses : ℕ → Bool) (vars : List Value) (b : ℕ) → owned around uses vars (Ptr b) ≤ times b vars
owned_less around uses vars b = omega (arith, occurs_times b (kept (owns around uses) 0 vars), kept_less b (owns around uses) 0 vars)

given_less : (around : Around) (n : ℕ) (values : List Value) (b : ℕ) → given_to around n values (Ptr b) ≤ times b values
given_less around n [] b = omega arith
given_less around n (x ∷ values) b =
    let y : hits_by (var_referred around n) x (Ptr b) ≤ times b (x ∷ []) = by_less (var_referred around n) b x in
    omega (arith, y, given_less around (suc n) values b, hit_times b x values, hit_times b x [])

waits_less : (p : LlProgram) (calls : List Call) (frames others : List Frame) (b : ℕ) → AllWait p calls frames others → waits_own p calls frames (Ptr b) ≤ in_frames others b
waits_less p [] [] [] b w = omega arith
waits_less p [] [] (other ∷ others) b w = absurd w
waits_less p [] (frame ∷ frames) others b w = absurd w
waits_less p (call ∷ calls) [] others b w = absurd w
waits_less p (call ∷ calls) (frame ∷ frames) [] b w = absurd w
waits_less p (call ∷ calls) (frame ∷ frames) (other ∷ others) b (w, ws) =
    let same : other.vars ≡ frame.vars = ap (λ f. f.vars) w.is in
    let x : times b other.vars ≡ times b frame.vars = ap (times b) same in
    let y : owned (around_of (plan_of p) call.graph.types) (live (call.op ∷ frame.ops) frame.exit) frame.vars (Ptr b) ≤ times b frame.vars = owned_less (around_of (plan_of p) call.graph.types) (live (call.op ∷ frame.ops) frame.exit) frame.vars b in
    omega (arith, x, y, waits_less p calls frames others b ws)

-- ---- memory

-- the first word of a block that is there is its count
first_word : (p : LlProgram) (d : Slot) (block : Block) → shown (counts_of (plan_of p)) d ≡ Some block → (0 < count_of d) × (read block.fields 0 ≡ Word (pos (count_of d)))
first_word p (S zero kind fields items) block e = absurd (cc)
first_word p (S (suc n) kind fields items) block e =
    (omega arith, (let f : Some block ≡ shown (counts_of (plan_of p)) (S (suc n) kind fields items) = sym e in let g : block ≡ _ = some_is block _ f in ap (λ x. read x.fields 0) g))
  where
    some_is : (x y : Block) → Some x ≡ Some y → x ≡ y
    some_is x y h = cc

module _ (p : LlProgram) (can : CanBeCounted p) where
  -- a count is that of blocks and slots, and what frames own
  module _ (core qcore : Core) (g : Ghost) (h : List (Option Block)) (stands : Stands p core qcore g h) (own rest : Value → ℕ) (counts : IsCounted (counted p) (counts_of (plan_of p)) g own) (same : (r : Value) → own r ≡ rest r + slots_own p core r) (fits : MemoryFits p core.blocks core.statics core.exc_type core.exc_value) (lead : MemoryLeads p (slots_of p) core) where
    record Parts (b : ℕ) (block : Block) : Type 0 where
      count_ : ℕ
      first : read block.fields 0 ≡ Word (pos count_)
      parts : count_ ≡ in_blocks h b + times b (qcore.exc_type ∷ qcore.exc_value ∷ []) + rest (Ptr b)

    parts : (b : ℕ) (block : Block) → block_in h b ≡ Some block → Parts b block
    parts b block e = by (first_word p (slot_at g.blocks b) block (sym (stands.shown.at b) ∙ e))
      where
        by : (0 < count g.blocks b) × (read block.fields 0 ≡ Word (pos (count g.blocks b))) → Parts b block
        by (there, first) = record { count_ = count g.blocks b; first = first; parts = omega (arith, counts.blocks b, same (Ptr b), cells, slots_, moved) }
          where
            kinds : (a : ℕ) → 0 < count g.blocks a → Rattle.refcount_transform.specs.Plan.is_counted (plan_of p) (ghost_.bare_at g.blocks a).kind ≡ true
            kinds a lt = (counts.whole a lt).counted

            cells : in_blocks h b ≡ ghost_.inner (counts_of (plan_of p)) g.blocks (Ptr b)
            cells = sums (counts_of (plan_of p)) b h g.blocks stands.shown.at (all_counted p can.typed core g stands.near kinds fits lead b there)

            slots_ : slots_own p core (Ptr b) ≡ times b (slots core)
            slots_ = slots_counted p can.typed core g stands.near kinds fits lead b there can.agrees can.leads

            moved : times b (qcore.exc_type ∷ qcore.exc_value ∷ []) ≡ times b (slots core)
            moved = ap (λ x. times b (x ∷ qcore.exc_value ∷ [])) stands.exc_type ∙ ap (λ x. times b (core.exc_type ∷ x ∷ [])) stands.exc_value

    exact_by : (t : State) → (core_of t).blocks ≡ h → ((b : ℕ) → inner (core_of t) b ≡ in_blocks h b + times b (qcore.exc_type ∷ qcore.exc_value ∷ [])) → ((b : ℕ) → rest (Ptr b) ≤ outer t b) → IsExact t
    exact_by t blocks in_ out b block e = by (parts b block (ap (λ h. block_in h b) (sym blocks) ∙ e))
      where
        by : Parts b block → HasCount t b block
        by w = let o : rest (Ptr b) ≤ outer t b = out b in record { count = w.count_; first = w.first; least = omega (arith, w.parts, in_ b); most = omega (arith, w.parts, in_ b, o) }

  -- ---- states

  memory_fits : (s : State) → StateFits p s → MemoryFits p (core_of s).blocks (core_of s).statics (core_of s).exc_type (core_of s).exc_value
  memory_fits (Calling f values frames core) (graph, w) = w.memory
  memory_fits (At ops e frames core) (graph, w) = w.fits.memory
  memory_fits (Returning value frames core) (t, w) = w.memory
  memory_fits (Throwing value frames core) (t, w) = w.memory

  memory_leads : (s : State) → StateLeads p (slots_of p) s → MemoryLeads p (slots_of p) (core_of s)
  memory_leads (Calling f values frames core) (graph, w) = w.memory
  memory_leads (At ops e frames core) (graph, w) = w.memory
  memory_leads (Returning value frames core) (graph, w) = w.memory
  memory_leads (Throwing value frames core) w = absurd w

  pub exact_at : (s t : State) (calls : List Call) (others : List Frame) (g : Ghost) (h : List (Option Block)) → StandsFor p calls others s t g h → StateFits p s → StateLeads p (slots_of p) s → IsExact t
  exact_at (At ops e frames core) t calls others g h both fits lead =
      exact_by core both.qcore g h both.stands (λ r. owned (around_of (plan_of p) both.graph.types) (live ops e) core.vars r + beside p calls frames core r) (λ r. owned (around_of (plan_of p) both.graph.types) (live ops e) core.vars r + waits_own p calls frames r) both.counts (λ r. omega arith)
      (memory_fits (At ops e frames core) fits) (memory_leads (At ops e frames core) lead) t (ap (λ t. (core_of t).blocks) both.is) (λ b. ap (λ t. inner (core_of t) b) both.is) out
    where
      out : (b : ℕ) → owned (around_of (plan_of p) both.graph.types) (live ops e) core.vars (Ptr b) + waits_own p calls frames (Ptr b) ≤ outer t b
      out b =
          let x : owned (around_of (plan_of p) both.graph.types) (live ops e) core.vars (Ptr b) ≤ times b core.vars = owned_less (around_of (plan_of p) both.graph.types) (live ops e) core.vars b in
          let y : waits_own p calls frames (Ptr b) ≤ in_frames others b = waits_less p calls frames others b both.waits in
          let o : outer t b ≡ times b core.vars + in_frames others b = ap (λ t. outer t b) both.is in
          omega (arith, x, y, o)
  exact_at (Calling f values frames core) t calls others g h both fits lead =
      exact_by core both.qcore g h both.stands (λ r. given_to (around_of (plan_of p) both.graph.types) 0 values r + beside p calls frames core r) (λ r. given_to (around_of (plan_of p) both.graph.types) 0 values r + waits_own p calls frames r) both.counts (λ r. omega arith)
      (memory_fits (Calling f values frames core) fits) (memory_leads (Calling f values frames core) lead) t (ap (λ t. (core_of t).blocks) both.is) (λ b. ap (λ t. inner (core_of t) b) both.is) out
    where
      out : (b : ℕ) → given_to (around_of (plan_of p) both.graph.types) 0 values (Ptr b) + waits_own p calls frames (Ptr b) ≤ outer t b
      out b =
          let x : given_to (around_of (plan_of p) both.graph.types) 0 values (Ptr b) ≤ times b values = given_less (around_of (plan_of p) both.graph.types) 0 values b in
          let y : waits_own p calls frames (Ptr b) ≤ in_frames others b = waits_less p calls frames others b both.waits in
          let o : outer t b ≡ times b values + in_frames others b = ap (λ t. outer t b) both.is in
          omega (arith, x, y, o)
  exact_at (Returning value frames core) t calls others g h both fits lead =
      exact_by core both.qcore g h both.stands (λ r. hits_by (reference_given (plan_of p).counted (Some both.graph.result)) value r + beside p calls frames core r) (λ r. hits_by (reference_given (plan_of p).counted (Some both.graph.result)) value r + waits_own p calls frames r) both.counts (λ r. omega arith)
      (memory_fits (Returning value frames core) fits) (memory_leads (Returning value frames core) lead) t (ap (λ t. (core_of t).blocks) both.is) (λ b. ap (λ t. inner (core_of t) b) both.is) out
    where
      out : (b : ℕ) → hits_by (reference_given (plan_of p).counted (Some both.graph.result)) value (Ptr b) + waits_own p calls frames (Ptr b) ≤ outer t b
      out b =
          let x : hits_by (reference_given (plan_of p).counted (Some both.graph.result)) value (Ptr b) ≤ times b (value ∷ []) = by_less (reference_given (plan_of p).counted (Some both.graph.result)) b value in
          let y : waits_own p calls frames (Ptr b) ≤ in_frames others b = waits_less p calls frames others b both.waits in
          let o : outer t b ≡ times b (value ∷ []) + in_frames others b = ap (λ t. outer t b) both.is in
          omega (arith, x, y, o)
  exact_at (Throwing value frames core) t calls others g h both fits lead = absurd both

  pub comes_exact : (args : List (List ℕ)) (steps : ℕ) → RunsSmall p args steps → (k : ℕ) (s : State) (text : List ℕ) (events : List Event) → run p args k (start p steps) [] [] ≡ Unfinished s text events → ComesExact p args steps k s text
  comes_exact args steps small k s text events e =
      let w : ComesAlong p args steps k s text = comes_along p can args steps small k s text events e in
      record { along = w; exact = exact_at s w.state w.calls w.others w.g w.h w.stands (subst (RanFits p) e (whole_run_fits p can.typed args steps k)) (subst (RanLeads p (slots_of p)) e (whole_run_leads p (slots_of p) can.typed can.agrees args steps k)) }
