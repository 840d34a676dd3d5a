-- One step of a program, in the counted one.
use Rattle.csub_tree.specs.Operation.{flag_of, is_unset}
use Rattle.csub_tree.specs.State.{Value, Unset, Null, Block, Core}
use Rattle.csub_tree.specs.Statement.{read, operand, operands, any_unset}
use Rattle.csub_tree.specs.declared.stuck.StuckReason.TheVariants.{Unset as IsUnset}
use Rattle.csub_tree.specs.declared.tree.CType.TheVariants as c
use Rattle.csub_tree.specs.declared.tree.COperand.{COperand}
use Rattle.ll_code.specs.Machine.{branch, leaves, gives_back}
use Rattle.ll_code.specs.Machine.{step, jump, begins, block_in, set_all}
use Rattle.ll_code.specs.State.{Frame, State, At, Returning, Goes, Sticks, Next}
use Rattle.ll_code.specs.Typed.{all_given, given_takes, takes}
use Rattle.ll_code.specs.declared.program.LlBlock.{LlBlock}
use Rattle.ll_code.specs.declared.program.LlExit.TheVariants as exit
use Rattle.ll_code.specs.declared.program.LlExit.{LlExit}
use Rattle.ll_code.specs.declared.program.LlLink.{LlLink}
use Rattle.ll_code.specs.declared.program.LlOp.{LlOp}
use Rattle.ll_code.specs.declared.program.LlProgram.{LlProgram}
use Rattle.ll_laws.proofs.Values.{and_left, and_right}
use Rattle.ll_live.specs.Live.{live}
use Rattle.refcount_laws.proofs.Copying.{no_null}
use Rattle.refcount_laws.proofs.Moving.{own_same}
use Rattle.refcount_laws.proofs.Numbers.{Based}
use Rattle.refcount_laws.proofs.Places.{given_marked, reference_marked}
use Rattle.refcount_laws.proofs.Steps.{stays}
use Rattle.refcount_laws.specs.Ghost.{Ghost, memory}
use Rattle.refcount_laws.specs.Graphs.{Counting}
use Rattle.refcount_laws.specs.Leaves.{are_apart, GivesBack}
use Rattle.refcount_laws.specs.Made.{counts_of}
use Rattle.refcount_laws.specs.Matches.{Stands, Comes}
use Rattle.refcount_laws.specs.Owned.{owned, hits_by, Roomy}
use Rattle.refcount_laws.specs.Runs.{Leads, here}
use Rattle.refcount_transform.specs.Blocks.{exit_of, block_of}
use Rattle.refcount_transform.specs.Blocks.{left, way_ops, way_link, way_block}
use Rattle.refcount_transform.specs.Changes.{around_of, dead, ops_of}
use Rattle.refcount_transform.specs.Counted.{counted}
use Rattle.refcount_transform.specs.Plan.{Plan, plan_of, reference_given}
use Rattle.std.proofs.Common.{◌≡◌, ◌≢◌, ◌⊎◌, inl, inr, ⊎_elim, ◌<◌, ◌≤◌, ℕ, zero, suc, ◌+◌, Bool, true, false, ◌&&◌, ◌||◌, List, [], ◌∷◌, ◌++◌, length, map, Option, Some, None, refl, sym, ap, ◌∙◌, subst, arith}
use Rattle.std.specs.Prelude.{cond, ◌-◌}
use Rattle.std.specs.Prelude.{slice_get, slice_set, slice_index_or, ◌==◌, not, cond}
use Rattle.csub_tree.specs.State.{After, Onward, Puts as PutsByte, Told, Over, Stuck, Made, Freed}
use Rattle.csub_tree.specs.Operation.{word_of}
use Rattle.csub_tree.specs.Statement.{ended}
use Rattle.ll_code.specs.State.{Calling, Throwing, Puts, Tells, Ends}
use Rattle.ll_code.specs.Machine.{goes_on, does, operates, waiting, returned, entered}
use Rattle.ll_code.specs.Typed.{IsWellTyped, operation_ok, params_ok}
use Rattle.ll_code.specs.declared.program.LlGraph.{LlGraph}
use Rattle.ll_code.specs.declared.program.LlOp.TheVariants as op
use Rattle.ll_held.specs.Quiet.{ReadsInputs}
use Rattle.ll_live.specs.Live.{set_by}
use Rattle.refcount_transform.specs.Changes.{touched}
use Rattle.refcount_laws.specs.Made.{leads_to_roots}
use Rattle.refcount_laws.specs.Matches.{Follows}
use Rattle.refcount_laws.specs.Before.{Before}
use Rattle.refcount_laws.specs.Ready.{Ready}
use Rattle.refcount_laws.specs.Leaves.{Leaves, EntersBy, given_to}
use Rattle.refcount_laws.specs.Whole.{Call, Waits, AllWait, BothAt, BothCalling, BothReturning, StandsFor, ComesFor, NextStands, ReadyAt, ReadyFor, ReadyBy, beside, waits_own, slots_own}
use Rattle.ll_held.proofs.Placing.{under_is}
use Rattle.refcount_laws.proofs.Keeping.{AfterMoves, Onwards, does_moves, sets_slots}
use Rattle.refcount_laws.proofs.Dispatching.{operation_followed}
use Rattle.refcount_laws.proofs.Emptied.{exc_set_one, exc_clear_one}
use Rattle.refcount_laws.proofs.Calling.{call_followed, call_fn_followed}
use Rattle.refcount_laws.proofs.Calls.{enter_comes, return_to}
use Rattle.refcount_laws.proofs.Departing.{exit_leaves}
use Rattle.refcount_laws.proofs.Longer.{moved, ops_more}

module _ (p : LlProgram) (args : List (List ℕ)) where
  abbrev plan : Plan
  plan = plan_of p

  -- what it comes to differs from where it was
  with_moves : (from to : State) (x : ComesFor p args from to) → (from ≡ x.state → ⊥) → (x : ComesFor p args from to) × (0 < x.leads.count)
  with_moves from to x differ = (x, moved (counted p) args from x.state x.leads differ)

  -- where one operation less is left to do
  one_less : (graph : LlGraph) (o : LlOp) (ops : List LlOp) (e e1 e2 : LlExit) (others : List Frame) (core core2 : Core) → At (ops_of (around_of plan graph.types) (o ∷ ops) e) e1 others core ≡ At (ops_of (around_of plan graph.types) ops e) e2 others core2 → ⊥
  one_less graph o ops e e1 e2 others core core2 same =
      let l : ops_of (around_of plan graph.types) (o ∷ ops) e ≡ ops_of (around_of plan graph.types) ops e = cc in
      let n : length (ops_of (around_of plan graph.types) (o ∷ ops) e) ≡ length (ops_of (around_of plan graph.types) ops e) = ap length l in
      absurd (omega (arith, n, ops_more (around_of plan graph.types) o ops e))

  -- a core that comes to a place of its program stands for it
  abbrev comes_for : (calls : List Call) (others frames : List Frame) (graph : LlGraph) (own : Value → ℕ) (from : State) (ops : List LlOp) (e : LlExit) (next block : ℕ) (core : Core) → slice_get p.graphs core.function ≡ Some graph → block ≡ core.block
      → Rattle.refcount_laws.specs.Leaves.From (Rattle.refcount_transform.specs.Blocks.blocks_of (around_of plan graph.types) graph.blocks) next (Rattle.refcount_transform.specs.Blocks.behind_exit (around_of plan graph.types) e)
      → AllWait p calls frames others → ((r : Value) → own r ≡ beside p calls frames core r)
      → Comes p args graph.types (live ops e) own from (ops_of (around_of plan graph.types) ops e) (exit_of (around_of plan graph.types) next e) others block core → ComesFor p args from (At ops e frames core)
  comes_for calls others frames graph own from ops e next block core there place ways waits same x = record {
    calls = calls;
    others = others;
    state = At (ops_of (around_of plan graph.types) ops e) (exit_of (around_of plan graph.types) next e) others (here x.qcore core.function core.block x.at core.vars x.h (memory x.g));
    g = x.g;
    h = x.h;
    leads = subst (λ block. Leads (counted p) args from (At (ops_of (around_of plan graph.types) ops e) (exit_of (around_of plan graph.types) next e) others (here x.qcore core.function block x.at core.vars x.h (memory x.g)))) place x.leads;
    stands = record {
      graph = graph;
      there = there;
      next = next;
      ways = ways;
      waits = waits;
      qcore = x.qcore;
      at = x.at;
      stands = x.stands;
      counts = own_same (counted p) args (counts_of plan) x.g (λ r. owned (around_of plan graph.types) (live ops e) core.vars r + own r) (λ r. owned (around_of plan graph.types) (live ops e) core.vars r + beside p calls frames core r)
          (λ r. ap (λ n. owned (around_of plan graph.types) (live ops e) core.vars r + n) (same r)) x.counts;
      is = refl;
    };
  }

  module _ (calls : List Call) (others frames : List Frame) (graph : LlGraph) (waits : AllWait p calls frames others) (ops : List LlOp) (e : LlExit) (next : ℕ)
      (ways : Rattle.refcount_laws.specs.Leaves.From (Rattle.refcount_transform.specs.Blocks.blocks_of (around_of plan graph.types) graph.blocks) next (Rattle.refcount_transform.specs.Blocks.behind_exit (around_of plan graph.types) e)) (old : Core) (there : slice_get p.graphs old.function ≡ Some graph) (from : State) where
    abbrev own_ : Value → ℕ
    own_ = beside p calls frames old

    abbrev kept : (core : Core) → Onwards old core → (from : State) → Comes p args graph.types (live ops e) own_ from (ops_of (around_of plan graph.types) ops e) (exit_of (around_of plan graph.types) next e) others old.block core → ComesFor p args from (At ops e frames core)
    kept core on from x =
        comes_for calls others frames graph own_ from ops e next old.block core (ap (slice_get p.graphs) on.function ∙ there) (sym on.block) ways waits
        (λ r. ap (λ n. n + waits_own p calls frames r) (ap (λ v. hits_by plan.slots.kind v r + hits_by plan.slots.value old.exc_value r) (sym on.kind) ∙ ap (λ v. hits_by plan.slots.kind core.exc_type r + hits_by plan.slots.value v r) (sym on.value))) x

    -- what follows by an operation
    followed : ((core : Core) → from ≡ At (ops_of (around_of plan graph.types) ops e) (exit_of (around_of plan graph.types) next e) others core → ⊥) → (after : After) → AfterMoves old after → Follows p args graph.types (live ops e) own_ from (ops_of (around_of plan graph.types) ops e) (exit_of (around_of plan graph.types) next e) others old.block after → NextStands p args from (goes_on (At ops e frames) after)
    followed differ (Onward core) on x = with_moves from (At ops e frames core) (kept core on from x) (differ (here x.qcore core.function core.block x.at core.vars x.h (memory x.g)))
    followed differ (PutsByte byte core) on (t, later, leads, moves, x) = (t, later, leads, moves, kept core on later x)
    followed differ (Told (Made number kind cells) core) on (t, later, leads, moves, x) = (t, later, leads, moves, kept core on later x)
    followed differ (Told (Freed number) core) on x = absurd x
    followed differ (Over outcome core) on x = x
    followed differ (Stuck reason) on x = tt

-- ---- exits stay in their graph

abbrev ExitKeeps : List Frame → Core → Next → Type 0
ExitKeeps frames old (Goes (At ops e waiting core)) = (waiting ≡ frames) × Onwards (record old { block = core.block }) core
ExitKeeps frames old (Goes (Returning value waiting core)) = (waiting ≡ frames) × (core ≡ old)
ExitKeeps frames old (Goes other) = ⊥
ExitKeeps frames old (Puts byte state) = ⊥
ExitKeeps frames old (Tells event state) = ⊥
ExitKeeps frames old (Ends outcome core) = Unit {0}
ExitKeeps frames old (Sticks reason) = Unit {0}

module _ (p : LlProgram) (frames : List Frame) (core : Core) where
  jump_keeps : (link : LlLink) → ExitKeeps frames core (jump p frames core link)
  jump_keeps link = one (any_unset (operands core.vars link.args)) (block_in (slice_get p.graphs core.function) link.to)
    where
      one : (y : Bool) (o : Option LlBlock) → ExitKeeps frames core (cond y (Sticks IsUnset) (begins frames core link.to (operands core.vars link.args) o))
      one true o = tt
      one false None = tt
      one false (Some block) = (refl, record { function = refl; block = refl; kind = refl; value = refl })

  back_keeps : (x : Option COperand) → ExitKeeps frames core (gives_back x frames core)
  back_keeps None = (refl, refl)
  back_keeps (Some x) = one (is_unset (operand core.vars x))
    where
      one : (y : Bool) → ExitKeeps frames core (cond y (Sticks IsUnset) (Goes (Returning (operand core.vars x) frames core)))
      one true = tt
      one false = (refl, refl)

  leaves_keeps : (e : LlExit) → Rattle.refcount_laws.specs.Leaves.is_explicit e ≡ true → ExitKeeps frames core (leaves p e frames core)
  leaves_keeps (exit.Goto link) explicit = jump_keeps link
  leaves_keeps (exit.If v there elsewhere) explicit = one (flag_of (read core.vars v))
    where
      one : (o : Option Bool) → ExitKeeps frames core (branch p frames core there elsewhere o)
      one None = tt
      one (Some true) = jump_keeps there
      one (Some false) = jump_keeps elsewhere
  leaves_keeps (exit.OnRaise a by without) explicit = absurd (cc)
  leaves_keeps (exit.Return x) explicit = back_keeps x
  leaves_keeps (exit.Raise a) explicit = absurd (cc)
  leaves_keeps (exit.Fail number) explicit = one (Rattle.csub_tree.specs.Statement.fail_name_of number)
    where
      one : (o : Option _) → ExitKeeps frames core (goes_on (At [] (exit.Fail number) frames) (Rattle.csub_tree.specs.Statement.fail core o))
      one None = tt
      one (Some name) = tt
  leaves_keeps (exit.Raised a) explicit = one (Rattle.ll_code.specs.Machine.type_in (slice_get p.graphs core.function) a)
    where
      told : (block : Block) → (o : Option (List ℕ)) → ExitKeeps frames core (goes_on (At [] (exit.Raised a) frames) (Rattle.csub_tree.specs.Statement.raised_as core o))
      told block None = tt
      told block (Some name) = tt

      on : (r : _) → ExitKeeps frames core (goes_on (At [] (exit.Raised a) frames) (Rattle.csub_tree.specs.Statement.on_block (λ block. Rattle.csub_tree.specs.Statement.raised_as core (Rattle.csub_tree.specs.Statement.bytes_of block.items)) r))
      on (Rattle.std.proofs.Common.Ok block) = told block (Rattle.csub_tree.specs.Statement.bytes_of block.items)
      on (Rattle.std.proofs.Common.Err reason) = tt

      one : (t : Option _) → ExitKeeps frames core (goes_on (At [] (exit.Raised a) frames) (Rattle.csub_tree.specs.Statement.raised core (Rattle.ll_code.specs.Machine.shapes_of p.structs) t (read core.vars a)))
      one None = tt
      one (Some (c.Ptr n)) = on (Rattle.csub_tree.specs.Statement.reached core (Rattle.ll_code.specs.Machine.shapes_of p.structs) n (read core.vars a))
      one (Some other) = tt

module _ (p : LlProgram) (args : List (List ℕ)) (calls : List Call) (others frames : List Frame) (graph : LlGraph) (waits : AllWait p calls frames others) (old : Core) (there : slice_get p.graphs old.function ≡ Some graph) (from : State) where
  -- what follows an exit
  left_at : ((value : Value) (frames : List Frame) (core : Core) → from ≡ Returning value frames core → ⊥) → (next : Next) → ExitKeeps frames old next → Leaves p args graph (beside p calls frames old) from others next → NextStands p args from next
  left_at differ (Goes (At ops e waiting core)) (same, on) (number, ways, x, moves) =
      subst (λ w. (x : ComesFor p args from (At ops e w core)) × (0 < x.leads.count)) (sym same) (
        (comes_for p args calls others frames graph (beside p calls frames old) from ops e number core.block core (ap (slice_get p.graphs) on.function ∙ there) refl ways waits
            (λ r. ap (λ n. n + waits_own p calls frames r) (ap (λ v. hits_by (plan_of p).slots.kind v r + hits_by (plan_of p).slots.value old.exc_value r) (sym on.kind) ∙ ap (λ v. hits_by (plan_of p).slots.kind core.exc_type r + hits_by (plan_of p).slots.value v r) (sym on.value))) x),
        moves,
      )
  left_at differ (Goes (Returning value waiting core)) (same, is) x =
      subst (λ w. (x : ComesFor p args from (Returning value w core)) × (0 < x.leads.count)) (sym same)
      (with_moves p args from (Returning value frames core) (record {
        calls = calls;
        others = others;
        state = Returning value others (here x.qcore core.function x.b x.at core.vars x.h (memory x.g));
        g = x.g;
        h = x.h;
        leads = x.leads;
        stands = record {
          graph = graph;
          there = ap (λ (core : Core). slice_get p.graphs core.function) is ∙ there;
          waits = waits;
          qcore = here x.qcore core.function x.b x.at core.vars x.h (memory x.g);
          stands = record { near = x.stands.near; shown = x.stands.shown; steps = x.stands.steps; exc_type = x.stands.exc_type; exc_value = x.stands.exc_value };
          counts = own_same (counted p) args (counts_of (plan_of p)) x.g (λ r. hits_by (reference_given (plan_of p).counted (Some graph.result)) value r + beside p calls frames old r) (λ r. hits_by (reference_given (plan_of p).counted (Some graph.result)) value r + beside p calls frames core r)
              (λ r. ap (λ core. hits_by (reference_given (plan_of p).counted (Some graph.result)) value r + beside p calls frames core r) (sym is)) x.counts;
          is = refl;
        };
      }) (differ value others (here x.qcore core.function x.b x.at core.vars x.h (memory x.g))))
  left_at differ (Goes (Calling f values waiting core)) keeps x = absurd keeps
  left_at differ (Goes (Throwing value waiting core)) keeps x = absurd keeps
  left_at differ (Puts byte state) keeps x = absurd keeps
  left_at differ (Tells event state) keeps x = absurd keeps
  left_at differ (Ends outcome core) keeps x = x
  left_at differ (Sticks reason) keeps x = tt

-- memory and variables of the core of the counted program are said apart
stands_as : (p : LlProgram) (core qcore : Core) (g : Ghost) (h : List (Option Block)) → Stands p core qcore g h → Stands p core (record qcore { blocks = h; statics = memory g }) g h
stands_as p core qcore g h x = record { near = x.near; shown = x.shown; steps = x.steps; exc_type = x.exc_type; exc_value = x.exc_value }

module _ (p : LlProgram) (ok : IsWellTyped p) (leads : leads_to_roots p ≡ true) (closed : ReadsInputs p) (args : List (List ℕ)) where
  based : Based p.structs
  based = Rattle.refcount_laws.proofs.Numbers.all_based p.structs (and_left _ _ (and_left _ _ (and_left _ _ ok)))

  counting : Counting (counted p) (counts_of (plan_of p))
  counting = Rattle.refcount_laws.proofs.Places.counted_counting p ok leads

  -- ---- an operation

  module _ (calls : List Call) (others frames : List Frame) (ops : List LlOp) (e : LlExit) (core : Core) (g : Ghost) (h : List (Option Block)) where
    abbrev own_here : Value → ℕ
    own_here = beside p calls frames core

    module _ (o : LlOp) (s : State) (both : BothAt p calls others (o ∷ ops) e frames core s g h) (ready : ReadyAt p both.graph own_here o ops e core g) where
      abbrev from_ : State
      from_ = At (ops_of (around_of (plan_of p) both.graph.types) (o ∷ ops) e) (exit_of (around_of (plan_of p) both.graph.types) both.next e) others (here both.qcore core.function core.block both.at core.vars h (memory g))

      abbrev before_ : Before p both.graph.types own_here o ops e core both.qcore g h
      before_ = record { roots = ready.roots; fits = ready.fits; stands = both.stands; pointing = ready.pointing; counts = both.counts; room = ready.room }

      in_block : sets_slots o ≡ false → Ready p both.graph.types own_here core o → operates p args o ops e frames core ≡ goes_on (At ops e frames) (does p args core o) → NextStands p args s (operates p args o ops e frames core)
      in_block plain may is =
          subst (λ s. NextStands p args s (operates p args o ops e frames core)) (sym both.is)
          (subst (NextStands p args from_) (sym is)
          (followed p args calls others frames both.graph both.waits ops e both.next both.ways core both.there from_ (λ core2. one_less p args both.graph o ops e _ _ others _ core2) (does p args core o) (does_moves core p args o plain)
          (operation_followed p ok leads args both.graph.types own_here ops (ops_of (around_of (plan_of p) both.graph.types) ops e) e (exit_of (around_of (plan_of p) both.graph.types) both.next e) others core.block both.at core both.qcore g h ready.apart o ready.ok may before_)))

      -- a call, with its frame
      in_call : (into : Option ℕ) → set_by o ≡ into → (next : Next)
          → EntersBy p args both.graph.types own_here o ops (ops_of (around_of (plan_of p) both.graph.types) ops e) e (exit_of (around_of (plan_of p) both.graph.types) both.next e) core.block both.at frames others core both.qcore g h into next → NextStands p args from_ next
      in_call into sets_it (Goes state) (f, values, graph, there, is, x) =
          let call : Call = record { op = o; graph = both.graph } in
          subst (λ to. (x : ComesFor p args from_ to) × (0 < x.leads.count)) (sym is)
          (with_moves p args from_ (Calling f values (waiting core into ops e ∷ frames) core) (record {
            calls = call ∷ calls;
            others = waiting (here x.qcore core.function core.block x.at core.vars x.h (memory x.g)) into (dead (around_of (plan_of p) both.graph.types) (touched o) ops e (ops_of (around_of (plan_of p) both.graph.types) ops e)) (exit_of (around_of (plan_of p) both.graph.types) both.next e) ∷ others;
            state = Calling f values (waiting (here x.qcore core.function core.block x.at core.vars x.h (memory x.g)) into (dead (around_of (plan_of p) both.graph.types) (touched o) ops e (ops_of (around_of (plan_of p) both.graph.types) ops e)) (exit_of (around_of (plan_of p) both.graph.types) both.next e) ∷ others)
                (here x.qcore core.function core.block x.at core.vars x.h (memory x.g));
            g = x.g;
            h = x.h;
            leads = x.leads;
            stands = record {
              graph = graph;
              there = there;
              waits = (record { there = both.there; into = sets_it; under = under_is p o ops e into core ready.placed; next = both.next; ways = both.ways; at = x.at + 1; is = refl }, both.waits);
              qcore = here x.qcore core.function core.block x.at core.vars x.h (memory x.g);
              stands = record { near = x.stands.near; shown = x.stands.shown; steps = x.stands.steps; exc_type = x.stands.exc_type; exc_value = x.stands.exc_value };
              counts = own_same (counted p) args (counts_of (plan_of p)) x.g (λ r. given_to (around_of (plan_of p) graph.types) 0 values r + (owned (around_of (plan_of p) both.graph.types) (live (o ∷ ops) e) core.vars r + own_here r))
                  (λ r. given_to (around_of (plan_of p) graph.types) 0 values r + beside p (call ∷ calls) (waiting core into ops e ∷ frames) core r) (λ r. omega arith) x.counts;
              is = refl;
            };
          }) (λ same. cc))
      in_call into sets_it (Sticks reason) x = tt
      in_call into sets_it (Puts byte state) x = absurd x
      in_call into sets_it (Tells event state) x = absurd x
      in_call into sets_it (Ends outcome core) x = absurd x

  -- ---- into a graph

  entering : (calls : List Call) (others frames : List Frame) (f : ℕ) (values : List Value) (core : Core) (s : State) (g : Ghost) (h : List (Option Block)) → (both : BothCalling p calls others f values frames core s g h) → Rattle.refcount_laws.specs.Whole.ReadyToEnter p both.graph values core
      → NextStands p args s (step p args (Calling f values frames core))
  entering calls others frames f values core s g h both ready =
      subst (λ s. NextStands p args s (entered f values frames core (slice_get p.graphs f))) (sym both.is)
      (subst (λ o. NextStands p args (Calling f values others (record both.qcore { blocks = h; statics = memory g })) (entered f values frames core o)) (sym both.there)
      (subst (λ o. NextStands p args (Calling f values others (record both.qcore { blocks = h; statics = memory g })) (Rattle.ll_code.specs.Machine.enters f values frames core both.graph o)) (sym ready.first)
      (let w : Rattle.refcount_laws.proofs.Blocks.Placed (around_of (plan_of p) both.graph.types) (Rattle.refcount_transform.specs.Blocks.blocks_of (around_of (plan_of p) both.graph.types) both.graph.blocks) 0 ready.block =
      Rattle.refcount_laws.proofs.Blocks.block_placed (around_of (plan_of p) both.graph.types) both.graph.blocks 0 ready.block ready.first in
      with_moves p args (Calling f values others (record both.qcore { blocks = h; statics = memory g })) _ (comes_for p args calls others frames both.graph (beside p calls frames core) (Calling f values others (record both.qcore { blocks = h; statics = memory g })) ready.block.ops ready.block.exit w.next 0
      (record core { function = f; block = 0; at = 0; vars = values ++ Rattle.std.specs.Prelude.replicate (length both.graph.types - length both.graph.params) Unset }) both.there refl w.ways both.waits (λ r. refl)
      (enter_comes p based counting args both.graph.types ready.roots (beside p calls frames core) others f w.next both.graph refl ready.block (Rattle.refcount_laws.proofs.Blocks.graph_placed p f both.graph both.there) w.is values ready.covers
      (closed f both.graph both.there 0 ready.block ready.first) core both.qcore g h ready.fits (stands_as p core both.qcore g h both.stands) ready.pointing both.counts)) (λ same. cc))))

  -- ---- back to a call that waits

  returning : (call : Call) (calls : List Call) (others frames : List Frame) (frame other : Frame) (value : Value) (core : Core) (s : State) (g : Ghost) (h : List (Option Block)) → (both : BothReturning p (call ∷ calls) (other ∷ others) value (frame ∷ frames) core s g h)
      → Rattle.refcount_laws.specs.Whole.ReadyToGoOn p both.graph.result call value frame core → NextStands p args s (step p args (Returning value (frame ∷ frames) core))
  returning call calls others frames frame other value core s g h both ready =
      let w : Waits p call frame other = both.waits.0 in
      let last : Core = record (Rattle.ll_code.specs.Machine.resumed frame core) { vars = Rattle.csub_tree.specs.Statement.taken_by frame.vars frame.into value } in
      let rest : Value → ℕ = beside p calls frames core in
      let hits : Value → ℕ = λ r. hits_by (reference_given (plan_of p).counted (Some both.graph.result)) value r in
      let kept : Value → ℕ = λ r. owned (around_of (plan_of p) call.graph.types) (live (call.op ∷ frame.ops) frame.exit) frame.vars r in
      subst (λ s. NextStands p args s (step p args (Returning value (frame ∷ frames) core))) (sym both.is)
      (subst (λ other. (x : ComesFor p args (Returning value (other ∷ others) (record both.qcore { blocks = h; statics = memory g })) (At frame.ops frame.exit frames last)) × (0 < x.leads.count)) (sym w.is)
      (with_moves p args _ _ (comes_for p args calls others frames call.graph rest (Returning value (Rattle.refcount_laws.proofs.Calls.waits_at p based counting args call.graph.types ready.roots rest others call.op frame.ops frame.exit w.next both.graph.result frame w.into ready.fits w.at ∷ others) (record both.qcore { blocks = h; statics = memory g }))
      frame.ops frame.exit w.next frame.block last w.there refl w.ways both.waits.1 (λ r. refl)
      (return_to p based counting args call.graph.types ready.roots rest others call.op frame.ops frame.exit w.next both.graph.result frame w.into ready.fits core both.qcore g h w.at value (stands_as p core both.qcore g h both.stands) ready.pointing ready.typed ready.dropped ready.unread ready.points ready.refers
      (own_same (counted p) args (counts_of (plan_of p)) g (λ r. hits r + beside p (call ∷ calls) (frame ∷ frames) core r) (λ r. hits r + (kept r + rest r))
      (λ r. (let z : (a b c d : ℕ) → a + (b + (c + d)) ≡ a + (c + (b + d)) = λ a b c d. omega arith in z (hits r) (slots_own p core r) (kept r) (waits_own p calls frames r))) both.counts))) (λ same. cc)))

  -- out of the first graph
  ending : (calls : List Call) (others : List Frame) (value : Value) (core : Core) (s : State) (g : Ghost) (h : List (Option Block)) → BothReturning p calls others value [] core s g h → NextStands p args s (step p args (Returning value [] core))
  ending [] [] value core s g h both = subst (λ s. NextStands p args s (step p args (Returning value [] core))) (sym both.is) (one (word_of value) refl)
    where
      from : State
      from = Returning value [] (record both.qcore { blocks = h; statics = memory g })

      one : (o : Option _) → word_of value ≡ o → NextStands p args (Returning value [] (record both.qcore { blocks = h; statics = memory g })) (goes_on (Returning value []) (Rattle.csub_tree.specs.Statement.on (λ n. Over (Rattle.rpy_base.specs.declared.outcome.Outcome.TheVariants.Returned n) (record core { vars = [] })) o))
      one None e = tt
      one (Some n) e = (
        Returning value [] (record both.qcore { blocks = h; statics = memory g }),
        record both.qcore { blocks = h; statics = memory g; vars = [] },
        stays (counted p) args (Returning value [] (record both.qcore { blocks = h; statics = memory g })),
        ap (λ o. goes_on (Returning value []) (Rattle.csub_tree.specs.Statement.on (λ n. Over (Rattle.rpy_base.specs.declared.outcome.Outcome.TheVariants.Returned n) (record both.qcore { blocks = h; statics = memory g; vars = [] })) o)) e,
        both.stands.steps,
      )
  ending (call ∷ calls) others value core s g h both = absurd both.waits
  ending [] (other ∷ others) value core s g h both = absurd both.waits

  -- ---- an exit

  leaving : (calls : List Call) (others frames : List Frame) (e : LlExit) (core : Core) (s : State) (g : Ghost) (h : List (Option Block)) → (both : BothAt p calls others [] e frames core s g h) → Rattle.refcount_laws.specs.Whole.ReadyToLeave p both.graph e core g
      → NextStands p args s (leaves p e frames core)
  leaving calls others frames e core s g h both ready =
      subst (λ s. NextStands p args s (leaves p e frames core)) (sym both.is)
      (left_at p args calls others frames both.graph both.waits core both.there (At (ops_of (around_of (plan_of p) both.graph.types) [] e) (exit_of (around_of (plan_of p) both.graph.types) both.next e) others (here both.qcore core.function core.block both.at core.vars h (memory g)))
      (λ value frames core same. cc) (leaves p e frames core) (leaves_keeps p frames core e ready.explicit)
      (exit_leaves p based counting args both.graph ready.roots closed ready.inputs (beside p calls frames core) frames others core both.qcore ready.fits both.there ready.links g h core.block both.at both.next both.stands
      (and_left _ _ (and_left _ _ (and_left _ _ ok))) ready.apart ready.lead ready.room ready.one e ready.explicit ready.ok ready.pointing ready.returns both.counts both.ways))

  -- ---- an operation, by what it is

  graph_good : (graphs : List LlGraph) (f : ℕ) (graph : LlGraph) → Rattle.ll_code.specs.Typed.graphs_ok p graphs ≡ true → slice_get graphs f ≡ Some graph → Rattle.ll_code.specs.Typed.graph_ok p graph ≡ true
  graph_good [] f graph good e = absurd (cc)
  graph_good (x ∷ graphs) zero graph good e = let same : x ≡ graph = cc in subst (λ x. Rattle.ll_code.specs.Typed.graph_ok p x ≡ true) same (and_left _ _ good)
  graph_good (x ∷ graphs) (suc f) graph good e = graph_good graphs f graph (and_right _ _ good) e

  params_named : (f : ℕ) (graph : LlGraph) → slice_get p.graphs f ≡ Some graph → params_ok p graph.types 0 graph.params ≡ true
  params_named f graph e = and_right _ _ (and_left _ _ (and_left _ _ (graph_good p.graphs f graph (and_right _ _ (and_left _ _ ok)) e)))

  module _ (calls : List Call) (others frames : List Frame) (ops : List LlOp) (e : LlExit) (core : Core) (s : State) (g : Ghost) (h : List (Option Block)) where
    abbrev Stepped : LlOp → Type 0
    Stepped o = (both : BothAt p calls others (o ∷ ops) e frames core s g h) → ReadyAt p both.graph (beside p calls frames core) o ops e core g → NextStands p args s (operates p args o ops e frames core)

    enough : (n : ℕ) → Roomy g n → Roomy g (n + 0)
    enough n room = subst (Roomy g) (let z : n ≡ n + 0 = omega arith in z) room

    operating : (o : LlOp) → Stepped o
    operating (op.Set a x) both ready = in_block calls others frames ops e core g h (op.Set a x) s both ready refl ready.ready refl
    operating (op.Unary a y x) both ready = in_block calls others frames ops e core g h (op.Unary a y x) s both ready refl ready.ready refl
    operating (op.Binary a y x z) both ready = in_block calls others frames ops e core g h (op.Binary a y x z) s both ready refl ready.ready refl
    operating (op.GetField a n v i) both ready = in_block calls others frames ops e core g h (op.GetField a n v i) s both ready refl ready.ready refl
    operating (op.SetField n v i x) both ready = in_block calls others frames ops e core g h (op.SetField n v i x) s both ready refl ready.ready refl
    operating (op.GetItem a n v x) both ready = in_block calls others frames ops e core g h (op.GetItem a n v x) s both ready refl ready.ready refl
    operating (op.SetItem n v y x) both ready = in_block calls others frames ops e core g h (op.SetItem n v y x) s both ready refl ready.ready refl
    operating (op.New a m n) both ready = in_block calls others frames ops e core g h (op.New a m n) s both ready refl ready.ready refl
    operating (op.NewArray a m n x) both ready = in_block calls others frames ops e core g h (op.NewArray a m n x) s both ready refl ready.ready refl
    operating (op.Step x) both ready = in_block calls others frames ops e core g h (op.Step x) s both ready refl ready.ready refl
    operating (op.ExcType a n) both ready = in_block calls others frames ops e core g h (op.ExcType a n) s both ready refl ready.ready refl
    operating (op.ExcValue a n) both ready = in_block calls others frames ops e core g h (op.ExcValue a n) s both ready refl ready.ready refl
    operating (op.Argc a) both ready = in_block calls others frames ops e core g h (op.Argc a) s both ready refl ready.ready refl
    operating (op.ArgLen a x) both ready = in_block calls others frames ops e core g h (op.ArgLen a x) s both ready refl ready.ready refl
    operating (op.Arg a x y) both ready = in_block calls others frames ops e core g h (op.Arg a x y) s both ready refl ready.ready refl
    operating (op.Put x) both ready = in_block calls others frames ops e core g h (op.Put x) s both ready refl ready.ready refl
    operating (op.Call into f xs) both ready =
        subst (λ s. NextStands p args s (operates p args (op.Call into f xs) ops e frames core)) (sym both.is)
        (in_call calls others frames ops e core g h (op.Call into f xs) s both ready into refl (operates p args (op.Call into f xs) ops e frames core)
        (call_followed p based counting args both.graph.types ready.roots (beside p calls frames core) ops (ops_of (around_of (plan_of p) both.graph.types) ops e) e (exit_of (around_of (plan_of p) both.graph.types) both.next e) frames others core.block core both.qcore g h both.at ready.fits both.stands into f xs ready.ok
        (params_named f) ready.pointing ready.ready.0 (enough (length xs) ready.ready.1) both.counts))
    operating (op.CallFn into result params v xs) both ready =
        subst (λ s. NextStands p args s (operates p args (op.CallFn into result params v xs) ops e frames core)) (sym both.is)
        (in_call calls others frames ops e core g h (op.CallFn into result params v xs) s both ready into refl (operates p args (op.CallFn into result params v xs) ops e frames core)
        (call_fn_followed p based counting args both.graph.types ready.roots (beside p calls frames core) ops (ops_of (around_of (plan_of p) both.graph.types) ops e) e (exit_of (around_of (plan_of p) both.graph.types) both.next e) frames others core.block core both.qcore g h both.at ready.fits both.stands into result params v xs ready.ok
        params_named ready.pointing ready.ready.0 (enough (length xs) ready.ready.1) both.counts))
    operating (op.ExcSet a b) both ready =
        subst (λ s. NextStands p args s (operates p args (op.ExcSet a b) ops e frames core)) (sym both.is)
        (one (is_unset (read core.vars a) || is_unset (read core.vars b))
        (exc_set_one p ok leads args both.graph.types (waits_own p calls frames) ops (ops_of (around_of (plan_of p) both.graph.types) ops e) e (exit_of (around_of (plan_of p) both.graph.types) both.next e) others core.block both.at core both.qcore g h a b
        ready.ready.0 ready.ready.1 ready.ready.2 ready.ready.3 ready.ready.4 (record { roots = ready.roots; fits = ready.fits; stands = both.stands; pointing = ready.pointing; counts = both.counts; room = ready.room })))
      where
        one : (y : Bool)
            → Follows p args both.graph.types (live ops e) (λ r. Rattle.refcount_laws.specs.Slots.slot_hits (plan_of p) (read core.vars a) (read core.vars b) r + waits_own p calls frames r)
            (At (ops_of (around_of (plan_of p) both.graph.types) (op.ExcSet a b ∷ ops) e) (exit_of (around_of (plan_of p) both.graph.types) both.next e) others (here both.qcore core.function core.block both.at core.vars h (memory g)))
            (ops_of (around_of (plan_of p) both.graph.types) ops e) (exit_of (around_of (plan_of p) both.graph.types) both.next e) others core.block (cond y (Stuck IsUnset) (Onward (record core { at = core.at + 1; exc_type = read core.vars a; exc_value = read core.vars b })))
            → NextStands p args (At (ops_of (around_of (plan_of p) both.graph.types) (op.ExcSet a b ∷ ops) e) (exit_of (around_of (plan_of p) both.graph.types) both.next e) others (here both.qcore core.function core.block both.at core.vars h (memory g)))
            (goes_on (At ops e frames) (cond y (Stuck IsUnset) (Onward (record core { at = core.at + 1; exc_type = read core.vars a; exc_value = read core.vars b }))))
        one true x = tt
        one false x =
            with_moves p args _ _ (comes_for p args calls others frames both.graph (λ r. Rattle.refcount_laws.specs.Slots.slot_hits (plan_of p) (read core.vars a) (read core.vars b) r + waits_own p calls frames r)
            (At (ops_of (around_of (plan_of p) both.graph.types) (op.ExcSet a b ∷ ops) e) (exit_of (around_of (plan_of p) both.graph.types) both.next e) others (here both.qcore core.function core.block both.at core.vars h (memory g)))
            ops e both.next core.block (record core { at = core.at + 1; exc_type = read core.vars a; exc_value = read core.vars b }) both.there refl both.ways both.waits (λ r. refl) x) (one_less p args both.graph (op.ExcSet a b) ops e _ _ others _ _)
    operating op.ExcClear both ready =
        subst (λ s. NextStands p args s (operates p args op.ExcClear ops e frames core)) (sym both.is)
        (with_moves p args _ _ (comes_for p args calls others frames both.graph (waits_own p calls frames)
        (At (ops_of (around_of (plan_of p) both.graph.types) (op.ExcClear ∷ ops) e) (exit_of (around_of (plan_of p) both.graph.types) both.next e) others (here both.qcore core.function core.block both.at core.vars h (memory g)))
        ops e both.next core.block (record core { at = core.at + 1; exc_type = Null; exc_value = Null }) both.there refl both.ways both.waits
        (λ r. (let z : 0 + waits_own p calls frames r ≡ waits_own p calls frames r = omega arith in sym z) ∙ ap (λ n. n + waits_own p calls frames r) (sym (no_slots (plan_of p).slots.kind (plan_of p).slots.value r)))
        (exc_clear_one p ok leads args both.graph.types (waits_own p calls frames) ops (ops_of (around_of (plan_of p) both.graph.types) ops e) e (exit_of (around_of (plan_of p) both.graph.types) both.next e) others core.block both.at core both.qcore g h
        ready.ready.0 ready.ready.1 (record { roots = ready.roots; fits = ready.fits; stands = both.stands; pointing = ready.pointing; counts = both.counts; room = ready.room }))) (one_less p args both.graph op.ExcClear ops e _ _ others _ _))
      where
        null_hits : (k : Option ℕ) (r : Value) → hits_by k Null r ≡ 0
        null_hits None r = refl
        null_hits (Some n) r = no_null r

        no_slots : (k m : Option ℕ) (r : Value) → hits_by k Null r + hits_by m Null r ≡ 0
        no_slots k m r = omega (arith, null_hits k r, null_hits m r)
    operating (op.Free a) both ready = absurd ready.ready
    operating (op.Raise a) both ready = absurd ready.ready

  -- one step, wherever it is taken
  pub step_stands : (calls : List Call) (others : List Frame) (s t : State) (g : Ghost) (h : List (Option Block)) → StandsFor p calls others s t g h → ReadyFor p calls s g → NextStands p args t (step p args s)
  step_stands calls others (At [] e frames core) t g h both ready = leaving calls others frames e core t g h both (ready both.graph both.there)
  step_stands calls others (At (o ∷ ops) e frames core) t g h both ready = operating calls others frames ops e core t g h o both (ready both.graph both.there)
  step_stands calls others (Calling f values frames core) t g h both ready = entering calls others frames f values core t g h both (ready both.graph both.there)
  step_stands calls others (Returning value [] core) t g h both ready = ending calls others value core t g h both
  step_stands (call ∷ calls) (other ∷ others) (Returning value (frame ∷ frames) core) t g h both ready = returning call calls others frames frame other value core t g h both (ready both.graph both.there)
  step_stands [] others (Returning value (frame ∷ frames) core) t g h both ready = absurd both.waits
  step_stands (call ∷ calls) [] (Returning value (frame ∷ frames) core) t g h both ready = absurd both.waits
  step_stands calls others (Throwing value frames core) t g h both ready = absurd both
