-- A counted program follows its program into a graph that is called, and back out of it.
use Rattle.refcount_laws.proofs.Operating.{typed_inside}
use Rattle.csub_tree.specs.State.{Value, Unset, Word, Byte, Flag, Fun, Null, Static, Ptr, Block, Core}
use Rattle.csub_tree.specs.Statement.{read}
use Rattle.ll_code.specs.Machine.{step}
use Rattle.ll_code.specs.State.{Frame, State, At, Returning, Goes}
use Rattle.ll_code.specs.declared.program.LlBlock.{LlBlock}
use Rattle.ll_code.specs.declared.program.LlExit.{LlExit}
use Rattle.ll_code.specs.declared.program.LlOp.{LlOp}
use Rattle.ll_code.specs.declared.program.LlProgram.{LlProgram}
use Rattle.ll_code.specs.declared.program.LlType.{LlType}
use Rattle.ll_live.specs.Live.{among, live}
use Rattle.refcount_laws.proofs.Dead.{dead_run}
use Rattle.refcount_laws.proofs.Following.{near_kept, value_leads}
use Rattle.refcount_laws.proofs.Leaving.{left_over}
use Rattle.refcount_laws.proofs.Moving.{own_same}
use Rattle.refcount_laws.proofs.Numbers.{Based}
use Rattle.refcount_laws.proofs.Places.{given_marked}
use Rattle.refcount_laws.proofs.Steps.{leads_on, goes}
use Rattle.refcount_laws.specs.Ghost.{Ghost, hit, memory, IsCounted}
use Rattle.refcount_laws.specs.Graphs.{Counts, Counting}
use Rattle.refcount_laws.specs.Made.{counts_of}
use Rattle.refcount_laws.specs.Matches.{PointsTo, Pointing, AllRoots, Stands, Comes}
use Rattle.refcount_laws.specs.Owned.{owns, owned, DoneTo, hits_by}
use Rattle.refcount_laws.specs.Runs.{here}
use Rattle.refcount_transform.specs.Blocks.{exit_of, block_of}
use Rattle.refcount_transform.specs.Changes.{Around, around_of, var_referred, dead, ops_of}
use Rattle.refcount_transform.specs.Counted.{counted}
use Rattle.refcount_transform.specs.Plan.{Plan, plan_of, reference_given}
use Rattle.std.proofs.Common.{◌≡◌, ◌<◌, ℕ, zero, suc, ◌+◌, Bool, true, false, ◌&&◌, ◌||◌, List, [], ◌∷◌, ◌++◌, length, Option, Some, None, refl, sym, ap, ◌∙◌, subst, arith}
use Rattle.std.specs.Prelude.{cond}
use Rattle.std.specs.Prelude.{slice_get, slice_set, cond}
use Rattle.std.proofs.Common.{replicate, ◌-◌}
use Rattle.ll_code.specs.State.{Calling}
use Rattle.ll_code.specs.Machine.{entered, enters, resumed}
use Rattle.ll_code.specs.declared.program.LlGraph.{LlGraph}
use Rattle.csub_tree.specs.Statement.{taken_by}
use Rattle.std.specs.Prelude.{is_some}
use Rattle.refcount_laws.specs.Ghost.{occurs}
use Rattle.ll_held.specs.Roots.{kept}
use Rattle.ll_live.specs.Live.{set_by, reads}
use Rattle.refcount_transform.specs.Changes.{touched}
use Rattle.refcount_transform.specs.Blocks.{graph_of}
use Rattle.refcount_laws.specs.Leaves.{given_to}
use Rattle.refcount_laws.proofs.Following.{effect_end, value_end}

-- ---- what a call gives to variables

given_by : (around : Around) (n : ℕ) (x : Value) (r : Value) (k : Option ℕ) → var_referred around n ≡ k → (l : List Value) → occurs r (cond (true && is_some k) (x ∷ l) l) ≡ hits_by k x r + occurs r l
given_by around n x r None e l = omega arith
given_by around n x r (Some m) e l = refl

-- variables that are all used own what they are given, and what is unset owns nothing
pub given_owned_all : (around : Around) (uses : ℕ → Bool) (n k : ℕ) (values : List Value) (r : Value) → ((i : ℕ) → i < length values → uses (n + i) ≡ true)
    → occurs r (kept (owns around uses) n (values ++ replicate k Unset)) ≡ given_to around n values r
given_owned_all around uses n zero [] r used = refl
given_owned_all around uses n (suc k) [] r used = by (owns around uses n) (given_owned_all around uses (suc n) k [] r (λ i lt. absurd (omega (arith, lt))))
  where
    unset : (r : Value) → hit r Unset ≡ 0
    unset Unset = refl
    unset (Word z) = refl
    unset (Byte z) = refl
    unset (Flag z) = refl
    unset (Fun z) = refl
    unset Null = refl
    unset (Ptr z) = refl
    unset (Static z) = refl

    by : (b : Bool) → occurs r (kept (owns around uses) (suc n) (replicate k Unset)) ≡ 0 → occurs r (cond b (Unset ∷ kept (owns around uses) (suc n) (replicate k Unset)) (kept (owns around uses) (suc n) (replicate k Unset))) ≡ 0
    by true e = omega (arith, unset r, e)
    by false e = e
given_owned_all around uses n k (x ∷ values) r used =
    let rest : occurs r (kept (owns around uses) (suc n) (values ++ replicate k Unset)) ≡ given_to around (suc n) values r = given_owned_all around uses (suc n) k values r (λ i lt. (let z : suc n + i ≡ n + suc i = omega arith in ap uses z) ∙ used (suc i) (omega (arith, lt))) in
    let first : uses n ≡ true = (let z : n ≡ n + 0 = omega arith in ap uses z) ∙ used 0 (omega arith) in
    ap (λ b. occurs r (cond (b && is_some (var_referred around n)) (x ∷ kept (owns around uses) (suc n) (values ++ replicate k Unset)) (kept (owns around uses) (suc n) (values ++ replicate k Unset)))) first
    ∙ given_by around n x r (var_referred around n) refl (kept (owns around uses) (suc n) (values ++ replicate k Unset)) ∙ ap (λ m. hits_by (var_referred around n) x r + m) rest

module _ (p : LlProgram) (based : Based p.structs) (counting : Counting (counted p) (counts_of (plan_of p))) (args : List (List ℕ)) (types : List LlType) (roots : AllRoots p types) (own : Value → ℕ) (frames : List Frame) where
  abbrev plan : Plan
  plan = plan_of p

  abbrev q : LlProgram
  q = counted p

  abbrev c : Counts
  c = counts_of plan

  abbrev around : Around
  around = around_of plan types

  -- ---- into a graph

  module _ (f next : ℕ) (graph : LlGraph) (typed : graph.types ≡ types) (block : LlBlock) (there : slice_get q.graphs f ≡ Some (graph_of plan graph)) (first : slice_get (graph_of plan graph).blocks 0 ≡ Some (block_of around next block))
      (values : List Value) (covers : (i : ℕ) → i < length values → among i block.inputs ≡ true) (closed : (v : ℕ) → live block.ops block.exit v ≡ true → among v block.inputs ≡ true) where
    abbrev vars : List Value
    vars = values ++ replicate (length graph.types - length graph.params) Unset

    pub enter_comes : (core qcore : Core) (g : Ghost) (h : List (Option Block)) → length vars ≡ length types → Stands p core (record qcore { blocks = h; statics = memory g }) g h → Pointing p types core.blocks core.statics (λ w. among w block.inputs) vars
        → IsCounted q c g (λ r. given_to around 0 values r + own r)
        → Comes p args types (live block.ops block.exit) own (Calling f values frames (record qcore { blocks = h; statics = memory g })) (ops_of around block.ops block.exit) (exit_of around next block.exit) frames 0
        (record core { function = f; block = 0; at = 0; vars = vars })
    enter_comes core qcore g h long stands pointing counts =
        let from : State = Calling f values frames (record qcore { blocks = h; statics = memory g }) in
        let begun : State = At (dead around block.inputs block.ops block.exit (ops_of around block.ops block.exit)) (exit_of around next block.exit) frames (here qcore f 0 0 vars h (memory g)) in
        let moves : step q args from ≡ Goes begun =
        ap (entered f values frames (record qcore { blocks = h; statics = memory g })) there ∙ ap (enters f values frames (record qcore { blocks = h; statics = memory g }) (graph_of plan graph)) first in
        let d : DoneTo q args c g (λ r. owned around (live block.ops block.exit) vars r + own r) begun (ops_of around block.ops block.exit) (exit_of around next block.exit) frames qcore f 0 vars =
        dead_run q args plan counting types qcore f 0 (exit_of around next block.exit) frames vars long block.inputs block.ops block.exit (ops_of around block.ops block.exit) 0 g h own stands.shown
        (record {
          root = λ v n u e. roots v n e;
          leads = λ v n u e. value_leads p based counting args types roots core.blocks core.statics g stands.near n (read vars v) (given_marked plan.counted (slice_get types v) n e) (roots v n e) (pointing.at v n (sym (used v) ∙ u) e);
        })
        (own_same q args c g (λ r. given_to around 0 values r + own r) (λ r. owned around (left_over block.ops block.exit block.inputs) vars r + own r)
        (λ r. ap (λ n. n + own r) (sym (given_owned_all around (left_over block.ops block.exit block.inputs) 0 (length graph.types - length graph.params) values r (λ i lt. (let z : 0 + i ≡ i = omega arith in ap (left_over block.ops block.exit block.inputs) z) ∙ used i ∙ covers i lt)))) counts) in
        record {
          qcore = qcore;
          g = d.done.later;
          h = d.done.blocks;
          at = d.at;
          stands = record {
            near = near_kept plan g d.done.later d.done.same d.done.same_statics core.blocks core.statics d.done.size d.done.size_statics stands.near;
            shown = d.done.shown;
            steps = stands.steps;
            exc_type = stands.exc_type;
            exc_value = stands.exc_value;
          };
          counts = d.done.counted;
          leads = leads_on q args (goes q args from begun moves) d.done.leads;
        }
      where
        used : (w : ℕ) → left_over block.ops block.exit block.inputs w ≡ among w block.inputs
        used w = one (live block.ops block.exit w) refl
          where
            one : (b : Bool) → live block.ops block.exit w ≡ b → (b || among w block.inputs) ≡ among w block.inputs
            one true e = sym (closed w e)
            one false e = refl

  -- ---- back to a call that waits

  module _ (o : LlOp) (ops : List LlOp) (e : LlExit) (next : ℕ) (result : LlType) (frame : Frame) (into_is : set_by o ≡ frame.into) (fits : length frame.vars ≡ length types) where
    -- the frame as the counted program has it, at its place there
    abbrev pub waits_at : ℕ → Frame
    waits_at at = record frame { at = at; ops = dead around (touched o) ops e (ops_of around ops e); exit = exit_of around next e }

    pub return_to : (core qcore : Core) (g : Ghost) (h : List (Option Block)) (at : ℕ) (value : Value) → Stands p core (record qcore { blocks = h; statics = memory g }) g h → Pointing p types core.blocks core.statics (live (o ∷ ops) e) frame.vars
        → ((a : ℕ) → frame.into ≡ Some a → slice_get types a ≡ Some result) → (frame.into ≡ None → reference_given plan.counted (Some result) ≡ None)
        → ((a n : ℕ) → frame.into ≡ Some a → var_referred around a ≡ Some n → among a (reads o) ≡ false)
        → ((n : ℕ) → reference_given plan.counted (Some result) ≡ Some n → PointsTo p core.blocks core.statics n value) → ((m : ℕ) → value ≡ Ptr m → (n : ℕ) × (reference_given plan.counted (Some result) ≡ Some n))
        → IsCounted q c g (λ r. hits_by (reference_given plan.counted (Some result)) value r + (owned around (live (o ∷ ops) e) frame.vars r + own r))
        → Comes p args types (live ops e) own (Returning value (waits_at at ∷ frames) (record qcore { blocks = h; statics = memory g })) (ops_of around ops e) (exit_of around next e) frames frame.block
        (record (resumed frame core) { vars = taken_by frame.vars frame.into value })
    return_to core qcore g h at value stands pointing typed dropped unread points refers counts = by frame.into refl
      where
        from : State
        from = Returning value (waits_at at ∷ frames) (record qcore { blocks = h; statics = memory g })

        first : Core
        first = record core { function = frame.graph; block = frame.block; at = frame.at; vars = frame.vars }

        before : (to : List Value) → step q args from ≡ Goes (At (waits_at at).ops (waits_at at).exit frames (here qcore frame.graph frame.block at to h (memory g)))
            → Comes p args types (live ops e) own (At (waits_at at).ops (waits_at at).exit frames (here qcore frame.graph frame.block at to h (memory g))) (ops_of around ops e) (exit_of around next e) frames frame.block
            (record first { vars = to })
            → Comes p args types (live ops e) own from (ops_of around ops e) (exit_of around next e) frames frame.block (record first { vars = to })
        before to moves x = record {
          qcore = x.qcore;
          g = x.g;
          h = x.h;
          at = x.at;
          stands = x.stands;
          counts = x.counts;
          leads = leads_on q args (goes q args from (At (waits_at at).ops (waits_at at).exit frames (here qcore frame.graph frame.block at to h (memory g))) moves) x.leads;
        }

        stood : Stands p first qcore g h
        stood = record { near = stands.near; shown = stands.shown; steps = stands.steps; exc_type = stands.exc_type; exc_value = stands.exc_value }

        by : (into : Option ℕ) → frame.into ≡ into → Comes p args types (live ops e) own from (ops_of around ops e) (exit_of around next e) frames frame.block (record first { vars = taken_by frame.vars frame.into value })
        by None f =
            subst (λ into. Comes p args types (live ops e) own from (ops_of around ops e) (exit_of around next e) frames frame.block (record first { vars = taken_by frame.vars into value })) (sym f)
            (before frame.vars (ap (λ into. Goes (At (waits_at at).ops (waits_at at).exit frames (here qcore frame.graph frame.block at (taken_by frame.vars into value) h (memory g)))) f)
            (effect_end p based counting args types roots own o ops (ops_of around ops e) e (exit_of around next e) frames frame.block first qcore g h at (into_is ∙ f) fits stood pointing
            (own_same q args c g (λ r. hits_by (reference_given plan.counted (Some result)) value r + (owned around (live (o ∷ ops) e) frame.vars r + own r)) (λ r. owned around (live (o ∷ ops) e) frame.vars r + own r)
            (λ r. ap (λ k. hits_by k value r + (owned around (live (o ∷ ops) e) frame.vars r + own r)) (dropped f) ∙ (let z : 0 + (owned around (live (o ∷ ops) e) frame.vars r + own r) ≡ owned around (live (o ∷ ops) e) frame.vars r + own r = omega arith in z)) counts)))
        by (Some a) f =
            let same : var_referred around a ≡ reference_given plan.counted (Some result) = ap (reference_given plan.counted) (typed a f) in
            subst (λ into. Comes p args types (live ops e) own from (ops_of around ops e) (exit_of around next e) frames frame.block (record first { vars = taken_by frame.vars into value })) (sym f)
            (before (slice_set frame.vars a value) (ap (λ into. Goes (At (waits_at at).ops (waits_at at).exit frames (here qcore frame.graph frame.block at (taken_by frame.vars into value) h (memory g)))) f)
            (at_place (record first { vars = slice_set frame.vars a value })
            (value_end p based counting args types roots own o ops (ops_of around ops e) e (exit_of around next e) frames frame.block a (into_is ∙ f) first qcore g h at value (inside a (typed a f)) fits (λ n r. unread a n f r) stood pointing
            (λ n r. points n (sym same ∙ r)) (λ m r. (let w : (n : ℕ) × (reference_given plan.counted (Some result) ≡ Some n) = refers m r in (w.0, same ∙ w.1)))
            (own_same q args c g (λ r. hits_by (reference_given plan.counted (Some result)) value r + (owned around (live (o ∷ ops) e) frame.vars r + own r)) (λ r. hits_by (var_referred around a) value r + (owned around (live (o ∷ ops) e) frame.vars r + own r))
            (λ r. ap (λ k. hits_by k value r + (owned around (live (o ∷ ops) e) frame.vars r + own r)) (sym same)) counts))))
          where
            inside : (a : ℕ) → slice_get types a ≡ Some result → a < length frame.vars
            inside a e = let l : a < length types = typed_inside types a result e in omega (arith, l, fits)

            at_place : (core : Core) → Comes p args types (live ops e) own (At (waits_at at).ops (waits_at at).exit frames (here qcore frame.graph frame.block at (slice_set frame.vars a value) h (memory g))) (ops_of around ops e) (exit_of around next e) frames frame.block
                (record first { at = first.at + 1; vars = slice_set frame.vars a value })
                → Comes p args types (live ops e) own (At (waits_at at).ops (waits_at at).exit frames (here qcore frame.graph frame.block at (slice_set frame.vars a value) h (memory g))) (ops_of around ops e) (exit_of around next e) frames frame.block
                (record first { vars = slice_set frame.vars a value })
            at_place core x = record { qcore = x.qcore; g = x.g; h = x.h; at = x.at; stands = record { near = x.stands.near; shown = x.stands.shown; steps = x.stands.steps; exc_type = x.stands.exc_type; exc_value = x.stands.exc_value }; counts = x.counts; leads = x.leads }
