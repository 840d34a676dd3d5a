-- Whole runs without the variables that nothing names.
use Rattle.std.proofs.Common.{◌≡◌, ◌<◌, ◌≤◌, ℕ, zero, suc, ◌+◌, true, ◌==◌, List, [], ◌∷◌, ◌++◌, length, map, Option, Some, None, refl, sym, ap, ◌∙◌, subst, arith}
use Rattle.std.specs.Prelude.{slice_get, option_map}
use Rattle.csub_tree.specs.State.{Value, Null, Event}
use Rattle.csub_tree.specs.Layout.{static_block}
use Rattle.ll_code.specs.State.{State, Calling, At, Returning, Throwing, Next, Goes, Puts, Tells, Ends, Sticks}
use Rattle.ll_code.specs.Machine.{step, entered, resumed, shapes_of, start}
use Rattle.ll_code.specs.Meaning.{run, follow, meant_by, within}
use Rattle.ll_code.specs.Typed.{IsWellTyped, graph_ok, graphs_ok, params_ok, is_type_given}
use Rattle.ll_code.specs.declared.program.LlType.{LlType}
use Rattle.ll_code.specs.declared.program.LlGraph.{LlGraph}
use Rattle.ll_code.specs.declared.program.LlProgram.{LlProgram}
use Rattle.ll_live.specs.Live.{among}
use Rattle.ll_laws.specs.States.{StateFits, NextFits}
use Rattle.ll_laws.proofs.Steps.{step_fits}
use Rattle.ll_laws.proofs.Runs.{start_fits}
use Rattle.ll_laws.proofs.Values.{and_left, and_right, is_same}
use Rattle.ll_held.specs.Places.{IsPlaced}
use Rattle.ll_held.proofs.Placing.{NextPlaced, step_placed, start_placed}
use Rattle.joined_laws.specs.Fewer.{counts_in, fewer_graph, fewer, HasNumbers}
use Rattle.joined_laws.proofs.Kept.{keep_none, First}
use Rattle.joined_laws.proofs.Counting.{counts_size, params_kept}
use Rattle.joined_laws.proofs.Moving.{or_first, or_second}
use Rattle.joined_laws.proofs.Steps.{ns_of, lift_core, lift_frame, lift_state, lift_next, few, graph_at, leaves_moved, caught_moved, operates_moved, placed_kept, exit_kept, size_in, taken_moved, into_kept, ended_moved, entered_moved}

-- ---- parameters

within_list : {A : Type 0} (xs : List A) (n : ℕ) (x : A) → slice_get xs n ≡ Some x → n < length xs
within_list [] n x e = absurd (cc)
within_list (y ∷ xs) zero x e = omega arith
within_list (y ∷ xs) (suc n) x e = let h : n < length xs = within_list xs n x e in omega (arith, h)

typed_within : (p : LlProgram) (types : List LlType) (v : ℕ) (o : Option LlType) → slice_get types v ≡ o → is_type_given p.structs o ≡ true → v < length types
typed_within p types v None e h = absurd (cc)
typed_within p types v (Some t) e h = within_list types v t e

equals : (m n : ℕ) → m ≡ n → (m == n) ≡ true
equals m n e = grind (arith, e)

params_size : (p : LlProgram) (types : List LlType) (n : ℕ) (vs : List ℕ) → params_ok p types n vs ≡ true → n ≤ length types → n + length vs ≤ length types
params_size p types n [] h le = omega (arith, le)
params_size p types n (v ∷ vs) h le =
    let e : v ≡ n = is_same v n (and_left _ _ (and_left _ _ h)) in
    let lt : v < length types = typed_within p types v (slice_get types v) refl (and_right (v == n) _ (and_left _ _ h)) in
    let k : n + 1 + length vs ≤ length types = params_size p types (n + 1) vs (and_right _ _ h) (omega (arith, e, lt)) in
    omega (arith, k)

params_among : (p : LlProgram) (types : List LlType) (n : ℕ) (vs : List ℕ) → params_ok p types n vs ≡ true → (i : ℕ) → i < length vs → among (n + i) vs ≡ true
params_among p types n [] h i lt = absurd (omega (arith, lt))
params_among p types n (v ∷ vs) h zero lt = let e : v ≡ n = is_same v n (and_left _ _ (and_left _ _ h)) in or_first (v == n + 0) (among (n + 0) vs) (equals v (n + 0) (omega (arith, e)))
params_among p types n (v ∷ vs) h (suc i) lt =
    let e : n + 1 + i ≡ n + suc i = omega arith in
    or_second (v == n + suc i) (among (n + suc i) vs) (subst (λ k. among k vs ≡ true) e (params_among p types (n + 1) vs (and_right _ _ h) i (omega (arith, lt))))

pub graph_typed : (p : LlProgram) (graphs : List LlGraph) (n : ℕ) (g : LlGraph) → graphs_ok p graphs ≡ true → slice_get graphs n ≡ Some g → graph_ok p g ≡ true
graph_typed p [] n g ok e = absurd (cc)
graph_typed p (x ∷ graphs) zero g ok e = let f : x ≡ g = cc in subst (λ g. graph_ok p g ≡ true) f (and_left _ _ ok)
graph_typed p (x ∷ graphs) (suc n) g ok e = graph_typed p graphs n g (and_right (graph_ok p x) _ ok) e

module _ (p : LlProgram) (ok : IsWellTyped p) (has : HasNumbers p) (args : List (List ℕ)) where
  abbrev q : LlProgram
  q = fewer p

  pub params_first : (f : ℕ) (graph : LlGraph) → slice_get p.graphs f ≡ Some graph → First (length graph.params) (counts_in graph)
  params_first f graph of =
      let good : graph_ok p graph ≡ true = graph_typed p p.graphs f graph (and_right _ _ (and_left _ _ ok)) of in
      let params : params_ok p graph.types 0 graph.params ≡ true = and_right _ _ (and_left _ _ (and_left _ _ good)) in
      record {
        all = λ v lt. params_kept graph v (let e : 0 + v ≡ v = omega arith in subst (λ v. among v graph.params ≡ true) e (params_among p graph.types 0 graph.params params v lt));
        size =
            let k : 0 + length graph.params ≤ length graph.types = params_size p graph.types 0 graph.params params (omega arith) in
            let s : length (counts_in graph) ≡ length graph.types = counts_size graph in
            omega (arith, k, s);
      }

  abbrev lifted : State → State
  lifted = lift_state p has args

  abbrev next_lifted : Next → Next
  next_lifted = lift_next p has args

  step_moved : (s : State) → IsPlaced p s → StateFits p s → step q args (lifted s) ≡ next_lifted (step p args s)
  step_moved (Calling f values frames core) place (graph, fit) =
      ap (entered f values (map (lift_frame p has args) frames) (lift_core p has args core)) (graph_at p has args f ∙ ap (option_map fewer_graph) fit.of)
      ∙ entered_moved p has args f values frames core graph fit.of (subst (λ n. First n (counts_in graph)) (sym fit.count) (params_first f graph fit.of)) fit.count
      ∙ ap (λ o. next_lifted (entered f values frames core o)) (sym fit.of)
  step_moved (At [] e frames core) (at, behind) (graph, fit) =
      leaves_moved p has args frames core (size_in p has args core.function graph core.vars fit.of fit.fits.vars.count) e (exit_kept p has args core.function core.block core.at [] e at)
  step_moved (At (o ∷ ops) e frames core) (at, behind) (graph, fit) = operates_moved p has args ops e frames core o (record {
    size = size_in p has args core.function graph core.vars fit.of fit.fits.vars.count;
    read = λ v h. (placed_kept p has args core.function core.block at.block at.of).read core.at o ops at.left v h;
    set = λ a h. (placed_kept p has args core.function core.block at.block at.of).set core.at o ops at.left a h;
    exit = exit_kept p has args core.function core.block core.at (o ∷ ops) e at;
  })
  step_moved (Returning value [] core) place fit = ended_moved p has args value core
  step_moved (Returning value (frame ∷ frames) core) (behind, others) (t, fit) =
      let graph = fit.waiting.0 in
      let waits = fit.waiting.1 in
      ap (λ vs. Goes (At (lift_frame p has args frame).ops (lift_frame p has args frame).exit (map (lift_frame p has args) frames) (record core { function = frame.graph; block = frame.block; at = frame.at; vars = vs })))
      (taken_moved p has args (ns_of p has args frame.graph) (few p has args frame.graph) frame.vars frame.into value (size_in p has args frame.graph graph frame.vars waits.of waits.vars.count) (into_kept p has args frame behind))
  step_moved (Throwing value [] core) place fit = refl
  step_moved (Throwing value (frame ∷ frames) core) (behind, others) (t, fit) =
      let graph = fit.waiting.0 in
      let waits = fit.waiting.1 in
      caught_moved p has args value frames (resumed frame core) (size_in p has args frame.graph graph frame.vars waits.of waits.vars.count) frame.ops frame.exit
      (exit_kept p has args frame.graph frame.block behind.before (behind.call ∷ frame.ops) frame.exit behind.placed)

  -- ---- runs

  on_next : (steps k : ℕ) → ((s : State) (text : List ℕ) (events : List Event) → IsPlaced p s → StateFits p s → meant_by steps (run q args k (lifted s) text events) ≡ meant_by steps (run p args k s text events)) → (text : List ℕ) (events : List Event) (next : Next) → NextPlaced p next → NextFits p next
      → meant_by steps (follow (run q args k) text events (next_lifted next)) ≡ meant_by steps (follow (run p args k) text events next)
  on_next steps k go text events (Goes s) place fit = go s text events place fit
  on_next steps k go text events (Puts byte s) place fit = go s (text ++ byte ∷ []) events place fit
  on_next steps k go text events (Tells event s) place fit = go s text (events ++ event ∷ []) place fit
  on_next steps k go text events (Ends outcome core) place fit = refl
  on_next steps k go text events (Sticks reason) place fit = refl

  run_moved : (steps k : ℕ) (s : State) (text : List ℕ) (events : List Event) → IsPlaced p s → StateFits p s → meant_by steps (run q args k (lifted s) text events) ≡ meant_by steps (run p args k s text events)
  unfolding run
  run_moved steps zero s text events place fit = refl
  run_moved steps (suc k) s text events place fit =
      ap (λ n. meant_by steps (follow (run q args k) text events n)) (step_moved s place fit)
      ∙ on_next steps k (λ s text events. run_moved steps k s text events) text events (step p args s) (step_placed p args s place) (step_fits p ok args s fit)

pub fewer_same : (p : LlProgram) → IsWellTyped p → HasNumbers p → (args : List (List ℕ)) (steps k : ℕ) → within (fewer p) args steps k ≡ within p args steps k
fewer_same p ok has args steps k =
    ap (λ vs. meant_by steps (run (fewer p) args k (begun vs) [] [])) (sym (keep_none (ns_of p has args p.entry)))
    ∙ run_moved p ok has args steps k (start p steps) [] [] (start_placed p args steps) (start_fits p ok steps)
  where
    begun : List Value → State
    begun vs = Calling p.entry [] [] (record {
      function = p.entry;
      block = 0;
      at = 0;
      vars = vs;
      callers = [];
      blocks = [];
      statics = map (static_block (shapes_of p.structs)) p.statics;
      exc_type = Null;
      exc_value = Null;
      steps = steps;
    })
