-- A counted program follows its program into a call: each operand is counted, and the call waits with what it owns.
use Rattle.csub_tree.specs.Operation.{is_unset}
use Rattle.csub_tree.specs.State.{Value, Block, Core}
use Rattle.csub_tree.specs.Statement.{read, operand, operands, any_unset}
use Rattle.csub_tree.specs.declared.stuck.StuckReason.TheVariants.{Unset as IsUnset}
use Rattle.csub_tree.specs.declared.tree.CConst.TheVariants as const
use Rattle.csub_tree.specs.declared.tree.COperand.TheVariants.{Var, Const}
use Rattle.csub_tree.specs.declared.tree.COperand.{COperand}
use Rattle.ll_code.specs.Machine.{step}
use Rattle.ll_code.specs.State.{Calling}
use Rattle.ll_code.specs.State.{Frame, State, At, Goes, Sticks, Next}
use Rattle.ll_code.specs.Typed.{all_given, given_takes}
use Rattle.ll_code.specs.declared.program.LlExit.{LlExit}
use Rattle.ll_code.specs.declared.program.LlGraph.{LlGraph}
use Rattle.ll_code.specs.declared.program.LlOp.{LlOp}
use Rattle.ll_code.specs.declared.program.LlProgram.{LlProgram}
use Rattle.ll_code.specs.declared.program.LlType.{LlType}
use Rattle.ll_laws.proofs.Values.{and_left, and_right, is_same}
use Rattle.ll_live.specs.Live.{among, variables_in, variables_of, live}
use Rattle.ll_live.specs.Live.{exit_reads}
use Rattle.ll_live.specs.Live.{set_by, reads}
use Rattle.refcount_laws.proofs.Following.{near_kept, value_leads}
use Rattle.refcount_laws.proofs.Leaving.{owned_by}
use Rattle.refcount_laws.proofs.Moving.{own_same}
use Rattle.refcount_laws.proofs.Numbers.{Based}
use Rattle.refcount_laws.proofs.Places.{given_marked, reference_marked}
use Rattle.refcount_laws.proofs.Steps.{leads_on, goes}
use Rattle.refcount_laws.specs.Ghost.{Ghost, memory, IsCounted}
use Rattle.refcount_laws.specs.Graphs.{Counts, Counting}
use Rattle.refcount_laws.specs.Leaves.{given_to}
use Rattle.refcount_laws.specs.Made.{counts_of}
use Rattle.refcount_laws.specs.Matches.{Pointing, AllRoots, Stands}
use Rattle.refcount_laws.specs.Owned.{owned, DoneTo, hits_by, all_hits, OperandsLead, Roomy}
use Rattle.refcount_laws.specs.Runs.{Leads, here}
use Rattle.refcount_transform.specs.Changes.{Around, around_of, operand_referred, dead}
use Rattle.refcount_transform.specs.Changes.{touched}
use Rattle.refcount_transform.specs.Counted.{counted}
use Rattle.refcount_transform.specs.Plan.{Plan, plan_of, root_of, reference_given}
use Rattle.std.proofs.Common.{◌≡◌, ◌≤◌, ℕ, suc, ◌+◌, Bool, true, false, ◌&&◌, ◌||◌, List, [], ◌∷◌, length, map, Option, Some, None, refl, sym, ap, ◌∙◌, subst, arith}
use Rattle.std.specs.Prelude.{cond}
use Rattle.std.specs.Prelude.{slice_get, ◌==◌, not, cond}
use Rattle.csub_tree.specs.declared.tree.CType.TheVariants as c
use Rattle.csub_tree.specs.Statement.{fun_of, same_type, same_types, same_result}
use Rattle.ll_code.specs.Machine.{waiting, called_value, called_as, c_type, c_result, param_types, type_or_word, operates}
use Rattle.ll_code.specs.Typed.{params_ok, all_taken, call_ok, operation_ok}
use Rattle.ll_code.specs.declared.program.LlOp.TheVariants as op
use Rattle.ll_code.specs.declared.program.LlType.TheVariants as type
use Rattle.refcount_transform.specs.Plan.{reference_to}
use Rattle.refcount_transform.specs.Changes.{changed, ups}
use Rattle.refcount_laws.specs.Leaves.{AllPoint, ComesToCall, EntersBy}
use Rattle.refcount_laws.proofs.Given.{ups_run}
use Rattle.refcount_laws.proofs.Blocks.{graph_placed}
use Rattle.csub_tree.specs.declared.stuck.StuckReason.TheVariants.{Signature}
use Rattle.refcount_laws.proofs.Departing.{result_taken}

one_more_is : (n : ℕ) → n + 1 ≡ suc n
one_more_is n = omega arith

module _ (p : LlProgram) (types : List LlType) where
  abbrev marks : List Bool
  marks = (plan_of p).counted

  abbrev around_ : Around
  around_ = around_of (plan_of p) types

  -- operands that the parameters of a graph take
  given_same : (others : List LlType) (n : ℕ) (vs : List ℕ) (xs : List COperand) (vars : List Value) (r : Value) → params_ok p others n vs ≡ true → all_given p types others vs xs ≡ true → all_hits around_ vars xs r ≡ given_to (around_of (plan_of p) others) n (operands vars xs) r
  given_same others n [] [] vars r named ok = refl
  given_same others n [] (x ∷ xs) vars r named ok = absurd (cc)
  given_same others n (v ∷ vs) [] vars r named ok = absurd (cc)
  given_same others n (v ∷ vs) (x ∷ xs) vars r named ok =
      let same : v ≡ n = is_same v n (and_left _ _ (and_left _ _ named)) in
      let first : hits_by (operand_referred around_ x) (operand vars x) r ≡ hits_by (reference_given marks (slice_get others n)) (operand vars x) r =
      subst (λ v. hits_by (operand_referred around_ x) (operand vars x) r ≡ hits_by (reference_given marks (slice_get others v)) (operand vars x) r) same (one (slice_get others v) (and_left _ _ ok)) in
      let rest : all_hits around_ vars xs r ≡ given_to (around_of (plan_of p) others) (n + 1) (operands vars xs) r = given_same others (n + 1) vs xs vars r (and_right _ _ named) (and_right _ _ ok) in
      ap (λ k. k + all_hits around_ vars xs r) first ∙ ap (λ k. hits_by (reference_given marks (slice_get others n)) (operand vars x) r + k) rest
      ∙ (let z : n + 1 ≡ suc n = one_more_is n in ap (λ m. hits_by (reference_given marks (slice_get others n)) (operand vars x) r + given_to (around_of (plan_of p) others) m (operands vars xs) r) z)
    where
      one : (o : Option LlType) → given_takes p types o x ≡ true → hits_by (operand_referred around_ x) (operand vars x) r ≡ hits_by (reference_given marks o) (operand vars x) r
      one None ok = absurd (cc)
      one (Some t) ok = result_taken p types t x vars r ok

  -- types that are the same in C refer to the same
  c_same : (t u : LlType) → same_type (c_type t) (c_type u) ≡ true → reference_to marks t ≡ reference_to marks u
  c_same type.Signed type.Signed e = refl
  c_same type.Signed type.Void e = refl
  c_same type.Void type.Signed e = refl
  c_same type.Void type.Void e = refl
  c_same type.Char type.Char e = refl
  c_same type.Bool type.Bool e = refl
  c_same type.Fn type.Fn e = refl
  c_same (type.Ptr m) (type.Ptr n) e = ap (λ k. reference_to marks (type.Ptr k)) (is_same m n e)
  c_same t u e = absurd (cc)

  given_c_same : (o : Option LlType) (u : LlType) → same_type (type_or_word o) (c_type u) ≡ true → reference_given marks o ≡ reference_to marks u
  given_c_same None u e = sym (c_same u type.Signed (swapped u e)) ∙ refl
    where
      swapped : (u : LlType) → same_type c.Signed (c_type u) ≡ true → same_type (c_type u) c.Signed ≡ true
      swapped type.Signed e = refl
      swapped type.Void e = refl
      swapped u e = absurd (cc)
  given_c_same (Some t) u e = c_same t u e

  -- operands that the parameters of a function value take
  taken_same : (others : List LlType) (n : ℕ) (vs : List ℕ) (ts : List LlType) (xs : List COperand) (vars : List Value) (r : Value) → params_ok p others n vs ≡ true → same_types (map (λ v. type_or_word (slice_get others v)) vs) (map c_type ts) ≡ true → all_taken p types ts xs ≡ true
      → all_hits around_ vars xs r ≡ given_to (around_of (plan_of p) others) n (operands vars xs) r
  taken_same others n [] [] [] vars r named same ok = refl
  taken_same others n (v ∷ vs) (t ∷ ts) (x ∷ xs) vars r named same ok =
      let at : v ≡ n = is_same v n (and_left _ _ (and_left _ _ named)) in
      let first : hits_by (operand_referred around_ x) (operand vars x) r ≡ hits_by (reference_given marks (slice_get others n)) (operand vars x) r =
      result_taken p types t x vars r (and_left _ _ ok) ∙ ap (λ k. hits_by k (operand vars x) r) (sym (ap (λ v. reference_given marks (slice_get others v)) (sym at) ∙ given_c_same (slice_get others v) t (and_left _ _ same))) in
      let rest : all_hits around_ vars xs r ≡ given_to (around_of (plan_of p) others) (n + 1) (operands vars xs) r = taken_same others (n + 1) vs ts xs vars r (and_right _ _ named) (and_right _ _ same) (and_right _ _ ok) in
      ap (λ k. k + all_hits around_ vars xs r) first ∙ ap (λ k. hits_by (reference_given marks (slice_get others n)) (operand vars x) r + k) rest
      ∙ (let z : n + 1 ≡ suc n = one_more_is n in ap (λ m. hits_by (reference_given marks (slice_get others n)) (operand vars x) r + given_to (around_of (plan_of p) others) m (operands vars xs) r) z)
  taken_same others n [] (t ∷ ts) xs vars r named same ok = absurd (cc)
  taken_same others n (v ∷ vs) [] xs vars r named same ok = absurd (cc)
  taken_same others n [] [] (x ∷ xs) vars r named same ok = absurd (cc)
  taken_same others n (v ∷ vs) (t ∷ ts) [] vars r named same ok = absurd (cc)

module _ (p : LlProgram) (based : Based p.structs) (counting : Counting (counted p) (counts_of (plan_of p))) (args : List (List ℕ)) (types : List LlType) (roots : AllRoots p types) (own : Value → ℕ) (ops rest : List LlOp) (e ex : LlExit) (waiters frames : List Frame) (b : ℕ) (core qcore : Core) (g : Ghost)
    (h : List (Option Block)) (at : ℕ) (fits : length core.vars ≡ length types) (stands : Stands p core qcore g h) where
  abbrev plan : Plan
  plan = plan_of p

  abbrev q : LlProgram
  q = counted p

  abbrev counts_ : Counts
  counts_ = counts_of plan

  abbrev around : Around
  around = around_of plan types

  -- operands lead where they point
  all_lead : (uses : ℕ → Bool) (most : Value → ℕ) → ((r : Value) → owned around uses core.vars r ≤ most r) → Pointing p types core.blocks core.statics uses core.vars → (xs : List COperand) → ((w : ℕ) → among w (variables_in xs) ≡ true → uses w ≡ true) → AllPoint p types core xs
      → OperandsLead q around g most core.vars xs
  all_lead uses most more pointing [] used points = tt
  all_lead uses most more pointing (x ∷ xs) used points = (
    record {
      root = λ n r. (points.0 n r).0;
      leads = λ n r. value_leads p based counting args types roots core.blocks core.statics g stands.near n (operand core.vars x) (marked x n r) (points.0 n r).0 (points.0 n r).1;
      owned = λ n a r i. owned_by p based counting args types roots own frames core qcore fits uses g h stands pointing most more x n a (λ w m. used w (first x w m)) r i;
    },
    all_lead uses most more pointing xs (λ w m. used w (later x w m)) points.1,
  )
    where
      marked : (x : COperand) (n : ℕ) → operand_referred around x ≡ Some n → Rattle.refcount_transform.specs.Plan.is_counted plan n ≡ true
      marked (Var v) n r = given_marked plan.counted (slice_get types v) n r
      marked (Const (const.Static m s)) n r = Rattle.refcount_laws.proofs.Places.reference_marked plan.counted (type.Ptr m) n r
      marked (Const (const.Word z)) n r = absurd (cc)
      marked (Const (const.Char z)) n r = absurd (cc)
      marked (Const (const.Bool z)) n r = absurd (cc)
      marked (Const const.Null) n r = absurd (cc)
      marked (Const (const.Fun z)) n r = absurd (cc)

      either : (a b : Bool) → b ≡ true → (a || b) ≡ true
      either true b e = refl
      either false b e = e

      first : (x : COperand) (w : ℕ) → among w (variables_of x) ≡ true → among w (variables_in (x ∷ xs)) ≡ true
      first (Var z) w m = by (z == w) m
        where
          by : (b : Bool) → (b || false) ≡ true → (b || among w (variables_in xs)) ≡ true
          by true e = refl
          by false e = absurd (cc)
      first (Const k) w m = absurd (cc)

      later : (x : COperand) (w : ℕ) → among w (variables_in xs) ≡ true → among w (variables_in (x ∷ xs)) ≡ true
      later (Var z) w m = either (z == w) (among w (variables_in xs)) m
      later (Const k) w m = m

  -- from where the operands are not counted yet to the call
  calls : (o : LlOp) (f : ℕ) (into : Option ℕ) (xs : List COperand) (others : List LlType) → changed around o (dead around (touched o) ops e rest) ≡ ups around xs (o ∷ dead around (touched o) ops e rest) → ((w : ℕ) → among w (variables_in xs) ≡ true → live (o ∷ ops) e w ≡ true)
      → ((r : Value) → all_hits around core.vars xs r ≡ given_to (around_of plan others) 0 (operands core.vars xs) r)
      → ((at : ℕ) (h : List (Option Block)) (s : List Block) → step q args (At (o ∷ dead around (touched o) ops e rest) ex frames (here qcore core.function b at core.vars h s))
      ≡ Goes (Calling f (operands core.vars xs) (waiting (here qcore core.function b at core.vars h s) into (dead around (touched o) ops e rest) ex ∷ frames) (here qcore core.function b at core.vars h s)))
      → Pointing p types core.blocks core.statics (live (o ∷ ops) e) core.vars → AllPoint p types core xs → Roomy g (length xs + 0) → IsCounted q counts_ g (λ r. owned around (live (o ∷ ops) e) core.vars r + own r)
      → ComesToCall p args (λ r. given_to (around_of plan others) 0 (operands core.vars xs) r + (owned around (live (o ∷ ops) e) core.vars r + own r)) (At (changed around o (dead around (touched o) ops e rest)) ex frames (here qcore core.function b at core.vars h (memory g))) f (operands core.vars xs) into (dead around (touched o) ops e rest) ex b frames core
  calls o f into xs others is used same moves pointing points room counts =
      let had : Value → ℕ = λ r. owned around (live (o ∷ ops) e) core.vars r + own r in
      let behind : List LlOp = dead around (touched o) ops e rest in
      let from : State = At (ups around xs (o ∷ behind)) ex frames (here qcore core.function b at core.vars h (memory g)) in
      let d : DoneTo q args counts_ g (λ r. all_hits around core.vars xs r + had r) from (o ∷ behind) ex frames qcore core.function b core.vars =
      ups_run q args plan counting types qcore core.function b ex frames core.vars xs g h had 0 at (o ∷ behind) stands.shown (all_lead (live (o ∷ ops) e) had (λ r. omega arith) pointing xs used points) room counts in
      record {
        qcore = qcore;
        g = d.done.later;
        h = d.done.blocks;
        at = d.at;
        stands = record {
          near = near_kept plan g d.done.later d.done.same d.done.same_statics core.blocks core.statics d.done.size d.done.size_statics stands.near;
          shown = d.done.shown;
          steps = stands.steps;
          exc_type = stands.exc_type;
          exc_value = stands.exc_value;
        };
        counts = own_same q args counts_ d.done.later (λ r. all_hits around core.vars xs r + had r) (λ r. given_to (around_of plan others) 0 (operands core.vars xs) r + had r) (λ r. ap (λ n. n + had r) (same r)) d.done.counted;
        leads = subst (λ l. Leads q args (At l ex frames (here qcore core.function b at core.vars h (memory g))) (Calling f (operands core.vars xs) (waiting (here qcore core.function b d.at core.vars d.done.blocks (memory d.done.later)) into behind ex ∷ frames) (here qcore core.function b d.at core.vars d.done.blocks (memory d.done.later)))) (sym is)
            (leads_on q args d.done.leads (goes q args (At (o ∷ behind) ex frames (here qcore core.function b d.at core.vars d.done.blocks (memory d.done.later)))
            (Calling f (operands core.vars xs) (waiting (here qcore core.function b d.at core.vars d.done.blocks (memory d.done.later)) into behind ex ∷ frames) (here qcore core.function b d.at core.vars d.done.blocks (memory d.done.later))) (moves d.at d.done.blocks (memory d.done.later))));
      }

  abbrev pub Entered : LlOp → Option ℕ → Next → Type 0
  Entered o into next = EntersBy p args types own o ops rest e ex b at waiters frames core qcore g h into next

  in_call : (xs : List COperand) (w : ℕ) → among w (variables_in xs) ≡ true → (more : Bool) → (among w (variables_in xs) || more) ≡ true
  in_call xs w m more = ap (λ b. b || more) m

  pub call_followed : (into : Option ℕ) (f : ℕ) (xs : List COperand) → operation_ok p types (op.Call into f xs) ≡ true → ((graph : LlGraph) → slice_get p.graphs f ≡ Some graph → params_ok p graph.types 0 graph.params ≡ true) → Pointing p types core.blocks core.statics (live (op.Call into f xs ∷ ops) e) core.vars
      → AllPoint p types core xs → Roomy g (length xs + 0) → IsCounted q counts_ g (λ r. owned around (live (op.Call into f xs ∷ ops) e) core.vars r + own r) → Entered (op.Call into f xs) into (operates p args (op.Call into f xs) ops e waiters core)
  call_followed into f xs ok params pointing points room counts = by (any_unset (operands core.vars xs)) refl
    where
      at_graph : (o : Option LlGraph) → slice_get p.graphs f ≡ o → call_ok p types into o xs ≡ true → (graph : LlGraph) × (slice_get p.graphs f ≡ Some graph) × (all_given p types graph.types graph.params xs ≡ true)
      at_graph None is ok = absurd (cc)
      at_graph (Some graph) is ok = (graph, is, and_right _ _ ok)

      by : (y : Bool) → any_unset (operands core.vars xs) ≡ y → Entered (op.Call into f xs) into (cond y (Sticks IsUnset) (Goes (Calling f (operands core.vars xs) (waiting core into ops e ∷ waiters) core)))
      by true y = tt
      by false y =
          let w : (graph : LlGraph) × (slice_get p.graphs f ≡ Some graph) × (all_given p types graph.types graph.params xs ≡ true) = at_graph (slice_get p.graphs f) refl ok in (
            f,
            operands core.vars xs,
            w.0,
            w.1,
            refl,
            calls (op.Call into f xs) f into xs w.0.types refl (λ w m. in_call xs w m _) (λ r. given_same p types w.0.types 0 w.0.params xs core.vars r (params w.0 w.1) w.2)
                (λ at h s. ap (λ y. cond y (Sticks IsUnset) (Goes (Calling f (operands core.vars xs) (waiting (here qcore core.function b at core.vars h s) into (dead around (touched (op.Call into f xs)) ops e rest) ex ∷ frames) (here qcore core.function b at core.vars h s)))) y)
                pointing points room counts,
          )

  pub call_fn_followed : (into : Option ℕ) (result : LlType) (params : List LlType) (v : ℕ) (xs : List COperand) → operation_ok p types (op.CallFn into result params v xs) ≡ true
      → ((f : ℕ) (graph : LlGraph) → slice_get p.graphs f ≡ Some graph → params_ok p graph.types 0 graph.params ≡ true) → Pointing p types core.blocks core.statics (live (op.CallFn into result params v xs ∷ ops) e) core.vars
      → AllPoint p types core xs → Roomy g (length xs + 0) → IsCounted q counts_ g (λ r. owned around (live (op.CallFn into result params v xs ∷ ops) e) core.vars r + own r)
      → Entered (op.CallFn into result params v xs) into (operates p args (op.CallFn into result params v xs) ops e waiters core)
  call_fn_followed into result params v xs ok named pointing points room counts = by (is_unset (read core.vars v) || any_unset (operands core.vars xs)) refl
    where
      o : LlOp
      o = op.CallFn into result params v xs

      values : List Value
      values = operands core.vars xs

      behind : List LlOp
      behind = dead around (touched o) ops e rest

      mine : ℕ → List (Option Block) → List Block → Core
      mine at h s = here qcore core.function b at core.vars h s

      later : (a : Bool) (m : Bool) → m ≡ true → (a || m) ≡ true
      later true m e = refl
      later false m e = e

      found : (f : ℕ) → fun_of (read core.vars v) ≡ Some f → (is_unset (read core.vars v) || any_unset values) ≡ false → (graph : LlGraph) → slice_get p.graphs f ≡ Some graph → (y : Bool) → (same_result (c_result graph.result) (c_result result) && same_types (param_types graph) (map c_type params)) ≡ y
          → Entered o into (cond y (Goes (Calling f values (waiting core into ops e ∷ waiters) core)) (Sticks Signature))
      found f is_fun y graph there false same = tt
      found f is_fun y graph there true same = (
        f,
        values,
        graph,
        there,
        refl,
        calls o f into xs graph.types refl (λ w m. in_call_fn w m)
            (λ r. taken_same p types graph.types 0 graph.params params xs core.vars r (named f graph there) (and_right _ _ same) (and_right _ _ ok))
            (λ at h s. ap (λ y. cond y (Sticks IsUnset) (called_value q (c_result result) (map c_type params) (fun_of (read core.vars v)) values (waiting (mine at h s) into behind ex ∷ frames) (mine at h s))) y
            ∙ ap (λ o. called_value q (c_result result) (map c_type params) o values (waiting (mine at h s) into behind ex ∷ frames) (mine at h s)) is_fun
            ∙ ap (called_as (c_result result) (map c_type params) f values (waiting (mine at h s) into behind ex ∷ frames) (mine at h s)) (graph_placed p f graph there)
            ∙ ap (λ y. cond y (Goes (Calling f values (waiting (mine at h s) into behind ex ∷ frames) (mine at h s))) (Sticks Signature)) same)
            pointing points room counts,
      )
        where
          in_call_fn : (w : ℕ) → among w (variables_in xs) ≡ true → live (o ∷ ops) e w ≡ true
          in_call_fn w m = ap (λ b. b || (not (Rattle.ll_live.specs.Live.sets into w) && live ops e w)) (later (v == w) (among w (variables_in xs)) m)

      is_there : (f : ℕ) → fun_of (read core.vars v) ≡ Some f → (is_unset (read core.vars v) || any_unset values) ≡ false → (g : Option LlGraph) → slice_get p.graphs f ≡ g → Entered o into (called_as (c_result result) (map c_type params) f values (waiting core into ops e ∷ waiters) core g)
      is_there f is_fun y None there = tt
      is_there f is_fun y (Some graph) there = found f is_fun y graph there (same_result (c_result graph.result) (c_result result) && same_types (param_types graph) (map c_type params)) refl

      is_function : (is_unset (read core.vars v) || any_unset values) ≡ false → (k : Option ℕ) → fun_of (read core.vars v) ≡ k → Entered o into (called_value p (c_result result) (map c_type params) k values (waiting core into ops e ∷ waiters) core)
      is_function y None is = tt
      is_function y (Some f) is = is_there f is y (slice_get p.graphs f) refl

      by : (y : Bool) → (is_unset (read core.vars v) || any_unset values) ≡ y → Entered o into (cond y (Sticks IsUnset) (called_value p (c_result result) (map c_type params) (fun_of (read core.vars v)) values (waiting core into ops e ∷ waiters) core))
      by true y = tt
      by false y = is_function y (fun_of (read core.vars v)) refl
