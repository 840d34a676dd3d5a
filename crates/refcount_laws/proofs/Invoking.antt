-- Calls are followed up to where the graph is called.
use Rattle.std.proofs.Common.{◌≡◌, ◌<◌, ℕ, zero, suc, ◌+◌, Bool, true, false, ◌||◌, List, [], ◌∷◌, length, map, Option, Some, None, refl, sym, ap, ◌∙◌, subst, arith}
use Rattle.std.specs.Prelude.{slice_get, ◌==◌}
use Rattle.csub_tree.specs.State.{Value, Ptr, Block, Core}
use Rattle.csub_tree.specs.Operation.{is_unset}
use Rattle.csub_tree.specs.Statement.{read, operand}
use Rattle.csub_tree.specs.declared.tree.COperand.{COperand}
use Rattle.csub_tree.specs.declared.tree.COperand.TheVariants.{Var, Const}
use Rattle.ll_code.specs.State.{Frame, State, At, Goes}
use Rattle.ll_code.specs.Machine.{step}
use Rattle.ll_code.specs.declared.program.LlOp.{LlOp}
use Rattle.ll_code.specs.declared.program.LlOp.TheVariants as op
use Rattle.ll_code.specs.declared.program.LlExit.{LlExit}
use Rattle.ll_code.specs.declared.program.LlType.{LlType}
use Rattle.ll_code.specs.declared.program.LlProgram.{LlProgram}
use Rattle.ll_live.specs.Live.{among, reads, set_by, sets, live}
use Rattle.refcount_transform.specs.Plan.{Plan, plan_of, is_counted, reference_given}
use Rattle.refcount_transform.specs.Changes.{Around, around_of, operand_referred, touched, dead}
use Rattle.refcount_transform.specs.Counted.{counted}
use Rattle.refcount_laws.specs.Graphs.{Counting}
use Rattle.refcount_laws.specs.Made.{counts_of}
use Rattle.refcount_laws.specs.Ghost.{Ghost, memory, IsCounted}
use Rattle.refcount_laws.specs.Runs.{here}
use Rattle.refcount_laws.specs.Owned.{owned, DoneTo, Roomy}
use Rattle.refcount_laws.specs.Matches.{AllRoots, Stands}
use Rattle.refcount_laws.proofs.Steps.{leads_on, goes}
use Rattle.refcount_laws.proofs.Numbers.{Based}
use Rattle.refcount_laws.proofs.Places.{given_marked, reference_marked}
use Rattle.std.specs.Prelude.{cond}
use Rattle.csub_tree.specs.declared.stuck.StuckReason.TheVariants.{Unset as IsUnset}
use Rattle.ll_code.specs.declared.program.LlType.TheVariants as type
use Rattle.refcount_transform.specs.Changes.{changed}
use Rattle.refcount_laws.proofs.Following.{near_kept, value_leads}
use Rattle.std.specs.Prelude.{not, ◌&&◌}
use Rattle.csub_tree.specs.declared.tree.CConst.TheVariants as const
use Rattle.ll_live.specs.Live.{variables_of}
use Rattle.refcount_laws.proofs.Dead.{same_is}
use Rattle.std.specs.Prelude.{◌++◌}
use Rattle.csub_tree.specs.Statement.{operands, any_unset, fun_of, same_result, same_types}
use Rattle.csub_tree.specs.declared.stuck.StuckReason.TheVariants.{Signature}
use Rattle.ll_code.specs.State.{Calling, Sticks}
use Rattle.ll_code.specs.Machine.{operates, called_value, called_as, waiting, c_result, c_type, param_types}
use Rattle.ll_code.specs.declared.program.LlGraph.{LlGraph}
use Rattle.ll_live.specs.Live.{variables_in}
use Rattle.refcount_transform.specs.Changes.{ups}
use Rattle.refcount_transform.specs.Blocks.{graph_of}
use Rattle.refcount_transform.specs.Made.{all_made}
use Rattle.refcount_laws.specs.Owned.{OperandsLead, all_hits}
use Rattle.refcount_laws.specs.Calls.{OperandsPoint, ComesCalling, CallLeads}
use Rattle.refcount_laws.proofs.Given.{ups_run}
use Rattle.refcount_laws.proofs.Copying.{owned_has}

-- a graph keeps its number
pub graph_there : (p : LlProgram) (f : ℕ) (graph : LlGraph) → slice_get p.graphs f ≡ Some graph → slice_get (counted p).graphs f ≡ Some (graph_of (plan_of p) graph)
graph_there p f graph e = behind p.graphs f e
  where
    behind : (l : List LlGraph) (f : ℕ) → slice_get l f ≡ Some graph → slice_get (map (graph_of (plan_of p)) l ++ all_made (plan_of p)) f ≡ Some (graph_of (plan_of p) graph)
    behind [] f e = absurd (cc)
    behind (x ∷ l) zero e = let g : x ≡ graph = cc in ap (λ x. Some (graph_of (plan_of p) x)) g
    behind (x ∷ l) (suc f) e = behind l f e

module _ (p : LlProgram) (based : Based p.structs) (counting : Counting (counted p) (counts_of (plan_of p))) (args : List (List ℕ)) (types : List LlType) (roots : AllRoots p types) (own : Value → ℕ) (ops rest : List LlOp) (e : LlExit) (ex : LlExit)
    (frames : List Frame) (b : ℕ) (core qcore : Core) (g : Ghost) (h : List (Option Block)) (at : ℕ) (fits : length core.vars ≡ length types) (stands : Stands p core qcore g h) (k : ℕ) where
  abbrev plan : Plan
  plan = plan_of p

  abbrev q : LlProgram
  q = counted p

  abbrev around : Around
  around = around_of plan types

  operand_marked : (x : COperand) (n : ℕ) → operand_referred around x ≡ Some n → is_counted plan n ≡ true
  operand_marked (Var v) n f = given_marked plan.counted (slice_get types v) n f
  operand_marked (Const (const.Static m s)) n f = reference_marked plan.counted (type.Ptr m) n f
  operand_marked (Const (const.Word z)) n f = absurd (cc)
  operand_marked (Const (const.Char z)) n f = absurd (cc)
  operand_marked (Const (const.Bool z)) n f = absurd (cc)
  operand_marked (Const const.Null) n f = absurd (cc)
  operand_marked (Const (const.Fun z)) n f = absurd (cc)

  operand_owned : (uses : ℕ → Bool) (x : COperand) → ((w : ℕ) → among w (variables_of x) ≡ true → uses w ≡ true) → (n a : ℕ) → operand_referred around x ≡ Some n → operand core.vars x ≡ Ptr a → 0 < owned around uses core.vars (Ptr a) + own (Ptr a)
  operand_owned uses (Var w) u n a r is =
      let lt : w < length core.vars = (let l : w < length types = inside types w n r in omega (arith, l, fits)) in
      let has : 0 < owned around uses core.vars (Ptr a) = owned_has around 0 uses core.vars w n a lt (u w (ap (λ z. z || false) (same_is w))) r is in
      omega (arith, has)
    where
      inside : (ts : List LlType) (v n : ℕ) → reference_given plan.counted (slice_get ts v) ≡ Some n → v < length ts
      inside [] v n e = absurd (cc)
      inside (t ∷ ts) zero n e = omega arith
      inside (t ∷ ts) (suc v) n e = omega (arith, inside ts v n e)
  operand_owned uses (Const (const.Static m s)) u n a r is = absurd (cc)
  operand_owned uses (Const (const.Word z)) u n a r is = absurd (cc)
  operand_owned uses (Const (const.Char z)) u n a r is = absurd (cc)
  operand_owned uses (Const (const.Bool z)) u n a r is = absurd (cc)
  operand_owned uses (Const const.Null) u n a r is = absurd (cc)
  operand_owned uses (Const (const.Fun z)) u n a r is = absurd (cc)

  first_in : (w : ℕ) (xs ys : List ℕ) → among w xs ≡ true → among w (xs ++ ys) ≡ true
  first_in w [] ys f = absurd (cc)
  first_in w (x ∷ xs) ys f = by (λ m. first_in w xs ys m) (x == w) f
    where
      by : (among w xs ≡ true → among w (xs ++ ys) ≡ true) → (z : Bool) → (z || among w xs) ≡ true → (z || among w (xs ++ ys)) ≡ true
      by go true f = refl
      by go false f = go f

  second_in : (w : ℕ) (xs ys : List ℕ) → among w ys ≡ true → among w (xs ++ ys) ≡ true
  second_in w [] ys f = f
  second_in w (x ∷ xs) ys f = ap (λ z. (x == w) || z) (second_in w xs ys f) ∙ all (x == w)
    where
      all : (z : Bool) → (z || true) ≡ true
      all true = refl
      all false = refl

  operands_lead : (uses : ℕ → Bool) (xs : List COperand) → ((w : ℕ) → among w (variables_in xs) ≡ true → uses w ≡ true) → OperandsPoint p types core xs → OperandsLead q around g (λ r. owned around uses core.vars r + own r) core.vars xs
  operands_lead uses [] u points = tt
  operands_lead uses (x ∷ xs) u points = (
    record {
      root = λ n f. (points.0 n f).0;
      leads = λ n f. value_leads p based counting args types roots core.blocks core.statics g stands.near n (operand core.vars x) (operand_marked x n f) (points.0 n f).0 (points.0 n f).1;
      owned = λ n a f is. operand_owned uses x (λ w m. u w (first_in w (variables_of x) (variables_in xs) m)) n a f is;
    },
    operands_lead uses xs (λ w m. u w (second_in w (variables_of x) (variables_in xs) m)) points.1,
  )

  -- up to the call itself
  module _ (o : LlOp) (xs : List COperand) (reads_xs : (w : ℕ) → among w (variables_in xs) ≡ true → live (o ∷ ops) e w ≡ true) (points : OperandsPoint p types core xs) (room : Roomy g (length xs + k))
      (counts : IsCounted q (counts_of plan) g (λ r. owned around (live (o ∷ ops) e) core.vars r + own r)) where
    abbrev behind : List LlOp
    behind = dead around (touched o) ops e rest

    abbrev before_call : State
    before_call = At (ups around xs (o ∷ behind)) ex frames (here qcore core.function b at core.vars h (memory g))

    counted_up : DoneTo q args (counts_of plan) g (λ r. all_hits around core.vars xs r + (owned around (live (o ∷ ops) e) core.vars r + own r)) before_call (o ∷ behind) ex frames qcore core.function b core.vars
    counted_up = ups_run q args plan counting types qcore core.function b ex frames core.vars xs g h (λ r. owned around (live (o ∷ ops) e) core.vars r + own r) k at (o ∷ behind) stands.shown (operands_lead (live (o ∷ ops) e) xs reads_xs points) room counts

    comes_calling : (f : ℕ) (into : Option ℕ) → ((at : ℕ) (h : List (Option Block)) (s : List Block) → step q args (At (o ∷ behind) ex frames (here qcore core.function b at core.vars h s))
        ≡ Goes (Calling f (operands core.vars xs) (waiting (here qcore core.function b at core.vars h s) into behind ex ∷ frames) (here qcore core.function b at core.vars h s)))
        → ComesCalling p args types (live (o ∷ ops) e) own before_call f xs into behind ex frames b core
    comes_calling f into moves =
        let d : DoneTo q args (counts_of plan) g (λ r. all_hits around core.vars xs r + (owned around (live (o ∷ ops) e) core.vars r + own r)) before_call (o ∷ behind) ex frames qcore core.function b core.vars = counted_up in
        record {
          qcore = qcore;
          g = d.done.later;
          h = d.done.blocks;
          at = d.at;
          stands = record {
            near = near_kept plan g d.done.later d.done.same d.done.same_statics core.blocks core.statics d.done.size d.done.size_statics stands.near;
            shown = d.done.shown;
            steps = stands.steps;
            exc_type = stands.exc_type;
            exc_value = stands.exc_value;
          };
          counts = d.done.counted;
          leads = leads_on q args d.done.leads
              (goes q args (At (o ∷ behind) ex frames (here qcore core.function b d.at core.vars d.done.blocks (memory d.done.later)))
              (Calling f (operands core.vars xs) (waiting (here qcore core.function b d.at core.vars d.done.blocks (memory d.done.later)) into behind ex ∷ frames) (here qcore core.function b d.at core.vars d.done.blocks (memory d.done.later)))
              (moves d.at d.done.blocks (memory d.done.later)));
        }

  reads_later : (o : LlOp) (w : ℕ) → among w (reads o) ≡ true → live (o ∷ ops) e w ≡ true
  reads_later o w f = ap (λ z. z || (not (sets (set_by o) w) && live ops e w)) f

  pub call_followed : (into : Option ℕ) (f : ℕ) (xs : List COperand) (waits : List Frame) → OperandsPoint p types core xs → Roomy g (length xs + k) → IsCounted q (counts_of plan) g (λ r. owned around (live (op.Call into f xs ∷ ops) e) core.vars r + own r)
      → CallLeads p args types (live (op.Call into f xs ∷ ops) e) own (At (changed around (op.Call into f xs) (dead around (touched (op.Call into f xs)) ops e rest)) ex frames (here qcore core.function b at core.vars h (memory g))) f xs into
      (dead around (touched (op.Call into f xs)) ops e rest) ex frames b core (operates p args (op.Call into f xs) ops e waits core)
  call_followed into f xs waits points room counts = by (any_unset (operands core.vars xs)) refl
    where
      by : (y : Bool) → any_unset (operands core.vars xs) ≡ y
          → CallLeads p args types (live (op.Call into f xs ∷ ops) e) own (At (changed around (op.Call into f xs) (dead around (touched (op.Call into f xs)) ops e rest)) ex frames (here qcore core.function b at core.vars h (memory g))) f xs into
          (dead around (touched (op.Call into f xs)) ops e rest) ex frames b core (cond y (Sticks IsUnset) (Goes (Calling f (operands core.vars xs) (waiting core into ops e ∷ waits) core)))
      by true y = tt
      by false y =
          comes_calling (op.Call into f xs) xs (λ w m. reads_later (op.Call into f xs) w m) points room counts f into
          (λ at h s. ap (λ y. cond y (Sticks IsUnset) (Goes (Calling f (operands core.vars xs) (waiting (here qcore core.function b at core.vars h s) into (dead around (touched (op.Call into f xs)) ops e rest) ex ∷ frames) (here qcore core.function b at core.vars h s)))) y)

  -- through a function value, whose graph has the same signature
  module _ (into : Option ℕ) (result : LlType) (params : List LlType) (v : ℕ) (xs : List COperand) (waits : List Frame) (points : OperandsPoint p types core xs) (room : Roomy g (length xs + k))
      (counts : IsCounted q (counts_of plan) g (λ r. owned around (live (op.CallFn into result params v xs ∷ ops) e) core.vars r + own r)) where
    abbrev rest_fn : List LlOp
    rest_fn = dead around (touched (op.CallFn into result params v xs)) ops e rest

    abbrev start_fn : State
    start_fn = At (changed around (op.CallFn into result params v xs) rest_fn) ex frames (here qcore core.function b at core.vars h (memory g))

    pub call_fn_followed : (f : ℕ) → fun_of (read core.vars v) ≡ Some f
        → CallLeads p args types (live (op.CallFn into result params v xs ∷ ops) e) own start_fn f xs into rest_fn ex frames b core (operates p args (op.CallFn into result params v xs) ops e waits core)
    call_fn_followed f is_f = by (is_unset (read core.vars v) || any_unset (operands core.vars xs)) refl
      where
        signed : (graph : LlGraph) → slice_get p.graphs f ≡ Some graph → (is_unset (read core.vars v) || any_unset (operands core.vars xs)) ≡ false → (y : Bool) → (same_result (c_result graph.result) (c_result result) && same_types (param_types graph) (map c_type params)) ≡ y
            → CallLeads p args types (live (op.CallFn into result params v xs ∷ ops) e) own start_fn f xs into rest_fn ex frames b core (cond y (Goes (Calling f (operands core.vars xs) (waiting core into ops e ∷ waits) core)) (Sticks Signature))
        signed graph there set false y = tt
        signed graph there set true y =
            comes_calling (op.CallFn into result params v xs) xs (λ w m. reads_later (op.CallFn into result params v xs) w (second_in w (v ∷ []) (variables_in xs) m)) points room counts f into
            (λ at h s.
            let waiter : Frame = waiting (here qcore core.function b at core.vars h s) into rest_fn ex in
            let qc : Core = here qcore core.function b at core.vars h s in
            ap (λ y. cond y (Sticks IsUnset) (called_value q (c_result result) (map c_type params) (fun_of (read core.vars v)) (operands core.vars xs) (waiter ∷ frames) qc)) set
            ∙ ap (λ o. called_value q (c_result result) (map c_type params) o (operands core.vars xs) (waiter ∷ frames) qc) is_f
            ∙ ap (called_as (c_result result) (map c_type params) f (operands core.vars xs) (waiter ∷ frames) qc) (graph_there p f graph there)
            ∙ ap (λ y. cond y (Goes (Calling f (operands core.vars xs) (waiter ∷ frames) qc)) (Sticks Signature)) y)

        graphs : (set : (is_unset (read core.vars v) || any_unset (operands core.vars xs)) ≡ false) → (o : Option LlGraph) → slice_get p.graphs f ≡ o
            → CallLeads p args types (live (op.CallFn into result params v xs ∷ ops) e) own start_fn f xs into rest_fn ex frames b core (called_as (c_result result) (map c_type params) f (operands core.vars xs) (waiting core into ops e ∷ waits) core o)
        graphs set None there = tt
        graphs set (Some graph) there = signed graph there set (same_result (c_result graph.result) (c_result result) && same_types (param_types graph) (map c_type params)) refl

        by : (y : Bool) → (is_unset (read core.vars v) || any_unset (operands core.vars xs)) ≡ y
            → CallLeads p args types (live (op.CallFn into result params v xs ∷ ops) e) own start_fn f xs into rest_fn ex frames b core
            (cond y (Sticks IsUnset) (called_value p (c_result result) (map c_type params) (fun_of (read core.vars v)) (operands core.vars xs) (waiting core into ops e ∷ waits) core))
        by true y = tt
        by false y =
            subst (λ o. CallLeads p args types (live (op.CallFn into result params v xs ∷ ops) e) own start_fn f xs into rest_fn ex frames b core (called_value p (c_result result) (map c_type params) o (operands core.vars xs) (waiting core into ops e ∷ waits) core)) (sym is_f)
            (graphs y (slice_get p.graphs f) refl)
