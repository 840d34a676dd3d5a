-- Step by step, the pieces follow the operations.
use Rattle.std.proofs.Common.{◌≡◌, ◌⊎◌, inl, inr, ℕ, zero, suc, ◌+◌, Bool, true, false, ◌||◌, List, [], ◌∷◌, ◌++◌, map, length, Option, Some, None, refl, sym, ap, ◌∙◌, subst, arith, ◌-◌}
use Rattle.std.specs.Prelude.{slice_get, slice_set, replicate, cond, ◌&&◌}
use Rattle.csub_tree.specs.State.{Value, Unset, Core, Event, After, Onward, Puts as PutsByte, Told, Over as Ran, Stuck}
use Rattle.csub_tree.specs.Operation.{is_unset}
use Rattle.csub_tree.specs.Statement.{read, operands, any_unset, fun_of, same_result, same_types, taken_by}
use Rattle.csub_tree.specs.declared.stuck.StuckReason.TheVariants.{Unset as IsUnset, Signature}
use Rattle.csub_tree.specs.declared.tree.COperand.{COperand}
use Rattle.csub_tree.specs.declared.tree.COperand.TheVariants.{Var}
use Rattle.ll_code.specs.State.{Frame, State, Calling, At, Returning, Throwing, Next, Goes, Puts, Tells, Ends, Sticks}
use Rattle.ll_code.specs.Machine.{step, does, goes_on, begins, block_in, set_all, resumed, waiting, caught, entered, enters, called_as, called_value, c_result, c_type, param_types}
use Rattle.ll_code.specs.declared.program.LlType.{LlType}
use Rattle.ll_code.specs.declared.program.LlLink.{LlLink}
use Rattle.ll_code.specs.declared.program.LlOp.{LlOp}
use Rattle.ll_code.specs.declared.program.LlOp.TheVariants as op
use Rattle.ll_code.specs.declared.program.LlExit.{LlExit}
use Rattle.ll_code.specs.declared.program.LlExit.TheVariants as exit
use Rattle.ll_code.specs.declared.program.LlBlock.{LlBlock}
use Rattle.ll_code.specs.declared.program.LlGraph.{LlGraph}
use Rattle.ll_code.specs.declared.program.LlProgram.{LlProgram}
use Rattle.ll_leads.specs.Path.{Path, Stay, Go, Put, Tell, Leads, stored, total}
use Rattle.ll_leads.specs.Lifted.{over, next_over}
use Rattle.ll_leads.proofs.Joined.{path_then, leads_then, leads_more}
use Rattle.ll_leads.proofs.Lifting.{entered_over, leaves_over, operates_over, caught_over, stored_over}
use Rattle.cut_laws.specs.Cuts.{IsCut, Whole, Last, Piece, nothing, elsewhere, WaitsSo, StandsCut, Here, Called, Within, IsInside, PassesSet, CutWaysLeadOn}
use Rattle.cut_laws.proofs.Moving.{placed, moved, does_moved}

set_again : (vars : List Value) (v : ℕ) → slice_set vars v (read vars v) ≡ vars
set_again [] v = refl
set_again (x ∷ vars) zero = refl
set_again (x ∷ vars) (suc v) = ap (λ vs. x ∷ vs) (set_again vars v)

-- variables that take their own values are as they were
own : (inputs : List ℕ) (vars : List Value) → set_all vars inputs (operands vars (map Var inputs)) ≡ vars
own [] vars = refl
own (v ∷ inputs) vars = ap (λ vs. set_all vs inputs (operands vars (map Var inputs))) (set_again vars v) ∙ own inputs vars

module _ (p : LlProgram) (args : List (List ℕ)) where
  step_leads : {s t : State} → step p args s ≡ Goes t → Leads p args (stored s) s [] t
  step_leads {s = s} {t = t} h = record { path = Go h (Stay t); few = omega arith }

  step_puts : {s t : State} {byte : ℕ} → step p args s ≡ Puts byte t → Leads p args (stored s) s (byte ∷ []) t
  step_puts {s = s} {t = t} h = record { path = Put h (Stay t); few = omega arith }

  step_tells : {s t : State} {event : Event} → step p args s ≡ Tells event t → Leads p args (stored s) s [] t
  step_tells {s = s} {t = t} h = record { path = Tell h (Stay t); few = omega arith }

  -- what is passed on stays set along a way
  set_along : {s t : State} {text : List ℕ} → Path p args s text t → PassesSet p args s → PassesSet p args t
  set_along {text = text} path set v by next frames core more rest = set v by next frames core (text ++ more) (path_then path rest)

  -- the same is written
  stored_same : (o : LlOp) (ops ops2 : List LlOp) (e e2 : LlExit) (frames frames2 : List Frame) (core : Core) (block at : ℕ) → stored (At (o ∷ ops) e frames (elsewhere block at core)) ≡ stored (At (o ∷ ops2) e2 frames2 core)
  stored_same (op.SetField n b k x) ops ops2 e e2 frames frames2 core block at = refl
  stored_same (op.SetItem n b i x) ops ops2 e e2 frames frames2 core block at = refl
  stored_same other ops ops2 e e2 frames frames2 core block at = refl

  -- an operation stays in its graph
  abbrev function_in : ℕ → After → ℕ
  function_in g (Onward c) = c.function
  function_in g (PutsByte byte c) = c.function
  function_in g (Told event c) = c.function
  function_in g other = g

  function_moved : (g block at : ℕ) (a : After) → function_in g (moved g block at a) ≡ g
  function_moved g block at (Onward c) = refl
  function_moved g block at (PutsByte byte c) = refl
  function_moved g block at (Told event c) = refl
  function_moved g block at (Ran outcome c) = refl
  function_moved g block at (Stuck reason) = refl

  stays : (core : Core) (o : LlOp) (after : After) → does p args core o ≡ after → function_in core.function after ≡ core.function
  stays core o after h = ap (function_in core.function) (sym h ∙ does_moved core.function core.block core.at core p args o) ∙ function_moved core.function core.block core.at (does p args core o)

  module _ (f : ℕ) (graph : LlGraph) (known : slice_get p.graphs f ≡ Some graph) (frames : List Frame) (v : ℕ) (by : LlLink) where
    -- where the pieces come to the next operation
    record Arrived (e : LlExit) (o : LlOp) (more : List LlOp) (from : State) (core : Core) : Type 0 where
      block : ℕ
      at : ℕ
      left : List LlOp
      ends : LlExit
      leads : Leads p args 0 from [] (At (o ∷ left) ends frames (elsewhere block at core))
      cut : IsCut graph.blocks v by more e left ends

    -- the next piece begins
    goes_next : (core : Core) (block at : ℕ) (next : LlLink) (piece : LlBlock) → core.function ≡ f → slice_get graph.blocks next.to ≡ Some piece → next.args ≡ map Var piece.inputs → PassesSet p args (At [] (exit.OnRaise v (Some by) next) frames (elsewhere block at core))
        → step p args (At [] (exit.OnRaise v (Some by) next) frames (elsewhere block at core)) ≡ Goes (At piece.ops piece.exit frames (elsewhere next.to 0 core))
    goes_next core block at next piece of is same set =
        let here = elsewhere block at core in
        let u : any_unset (operands core.vars next.args) ≡ false = set v by next frames here [] (Stay _) in
        ap (λ b. cond b (Sticks IsUnset) (begins frames here next.to (operands core.vars next.args) (block_in (slice_get p.graphs core.function) next.to))) u
        ∙ ap (begins frames here next.to (operands core.vars next.args)) (ap (λ g. block_in (slice_get p.graphs g) next.to) of ∙ ap (λ o. block_in o next.to) known ∙ is)
        ∙ ap (λ xs. Goes (At piece.ops piece.exit frames (record core { block = next.to; at = 0; vars = set_all core.vars piece.inputs (operands core.vars xs) }))) same
        ∙ ap (λ vs. Goes (At piece.ops piece.exit frames (record core { block = next.to; at = 0; vars = vs }))) (own piece.inputs core.vars)

    arrive : {all left : List LlOp} {e ends : LlExit} (o : LlOp) (more : List LlOp) (core : Core) (block at : ℕ) → core.function ≡ f → IsCut graph.blocks v by all e left ends → all ≡ o ∷ more → PassesSet p args (At left ends frames (elsewhere block at core))
        → Arrived e o more (At left ends frames (elsewhere block at core)) core
    arrive o more core block at of (Whole ops e) k set = record {
      block = block;
      at = at;
      left = more;
      ends = e;
      leads = subst (λ ops. Leads p args 0 (At ops e frames (elsewhere block at core)) [] (At (o ∷ more) e frames (elsewhere block at core))) (sym k) (record { path = Stay _; few = omega arith });
      cut = Whole more e;
    }
    arrive o more core block at of (Last ops link) k set = record {
      block = block;
      at = at;
      left = more;
      ends = exit.OnRaise v (Some by) link;
      leads = subst (λ ops. Leads p args 0 (At ops (exit.OnRaise v (Some by) link) frames (elsewhere block at core)) [] (At (o ∷ more) (exit.OnRaise v (Some by) link) frames (elsewhere block at core))) (sym k) (record { path = Stay _; few = omega arith });
      cut = Last more link;
    }
    arrive o more core block at of (Piece [] rest e next piece is same cut) k set =
        let one : step p args (At [] (exit.OnRaise v (Some by) next) frames (elsewhere block at core)) ≡ Goes (At piece.ops piece.exit frames (elsewhere next.to 0 core)) = goes_next core block at next piece of is same set in
        let inner = arrive o more core next.to 0 of cut k (set_along (Go one (Stay _)) set) in
        record { block = inner.block; at = inner.at; left = inner.left; ends = inner.ends; leads = leads_then (step_leads one) inner.leads; cut = inner.cut }
    arrive o more core block at of (Piece (o2 ∷ ops) rest e next piece is same cut) k set =
        let first : o2 ≡ o = cc in
        let others : ops ++ rest ≡ more = cc in
        record {
          block = block;
          at = at;
          left = ops;
          ends = exit.OnRaise v (Some by) next;
          leads = subst (λ o2. Leads p args 0 (At (o2 ∷ ops) (exit.OnRaise v (Some by) next) frames (elsewhere block at core)) [] (At (o ∷ ops) (exit.OnRaise v (Some by) next) frames (elsewhere block at core))) (sym first) (record { path = Stay _; few = omega arith });
          cut = subst (λ all. IsCut graph.blocks v by all e ops (exit.OnRaise v (Some by) next)) others (Piece ops rest e next piece is same cut);
        }

    module _ (rest : List LlOp) (e : LlExit) where
      abbrev Stands : State → State → Type 0
      Stands = StandsCut f graph.blocks v by rest e frames

      abbrev Waits : Frame → Frame → Type 0
      Waits = WaitsSo f graph.blocks v by rest e

      -- what the pieces do while the operations go from one state to the next
      record Onto (s x : State) (text : List ℕ) (t : State) : Type 0 where
        state : State
        leads : Leads p args (stored s) x text state
        stands : Stands t state

      abbrev IsOut : State → Type 0
      IsOut (Throwing value [] core) = Unit {0}
      IsOut other = ⊥

      abbrev Keeps : State → State → Next → Type 0
      Keeps s x (Goes t) = Onto s x [] t ⊎ IsOut t
      Keeps s x (Puts byte t) = Onto s x (byte ∷ []) t
      Keeps s x (Tells event t) = Onto s x [] t
      Keeps s x (Ends outcome core) = Unit {0}
      Keeps s x (Sticks reason) = Unit {0}

      onto : {s x y : State} {text : List ℕ} {t : State} → Leads p args (stored s) x text y → Stands t y → Onto s x text t
      onto {y = y} leads stands = record { state = y; leads = leads; stands = stands }

      -- one step each
      once : {s x y t : State} {text : List ℕ} → stored x ≡ stored s → Leads p args (stored x) x text y → Stands t y → Onto s x text t
      once {x = x} {y = y} {text = text} same leads stands = onto (subst (λ n. Leads p args n x text y) same leads) stands

      -- ---- at an operation

      module _ (o : LlOp) (ops : List LlOp) (core : Core) (from : State) (of : core.function ≡ f) (arrived : Arrived e o (ops ++ rest) from core) where
        abbrev whole_at : State
        whole_at = At (o ∷ ops) nothing [] core

        abbrev there : Core
        there = elsewhere arrived.block arrived.at core

        abbrev pieces_at : State
        pieces_at = At (o ∷ arrived.left) arrived.ends frames there

        same : stored pieces_at ≡ stored whole_at
        same = stored_same o arrived.left ops arrived.ends nothing frames [] core arrived.block arrived.at

        after_arrival : {text : List ℕ} {t : State} → Onto whole_at pieces_at text t → Onto whole_at from text t
        after_arrival {text = text} {t = t} k = onto (leads_more (0 + stored whole_at) (stored whole_at) (omega arith) (leads_then arrived.leads k.leads)) k.stands

        ordinary : ((ops : List LlOp) (e : LlExit) (frames : List Frame) (c : Core) → step p args (At (o ∷ ops) e frames c) ≡ goes_on (At ops e frames) (does p args c o)) → Keeps whole_at from (goes_on (At ops nothing []) (does p args core o))
        ordinary h = on (does p args core o) refl
          where
            stays_in : (a : After) → does p args core o ≡ a → function_in core.function a ≡ core.function
            stays_in = stays core o

            moves : does p args there o ≡ moved core.function arrived.block arrived.at (does p args core o)
            moves = does_moved core.function arrived.block arrived.at core p args o

            there_too : step p args pieces_at ≡ goes_on (At arrived.left arrived.ends frames) (moved core.function arrived.block arrived.at (does p args core o))
            there_too = h arrived.left arrived.ends frames there ∙ ap (goes_on (At arrived.left arrived.ends frames)) moves

            on : (a : After) → does p args core o ≡ a → Keeps whole_at from (goes_on (At ops nothing []) a)
            on (Onward c) k =
                let kept : c.function ≡ core.function = stays_in (Onward c) k in
                let next : step p args pieces_at ≡ Goes (At arrived.left arrived.ends frames (placed core.function arrived.block (arrived.at + 1) c)) = there_too ∙ ap (λ a. goes_on (At arrived.left arrived.ends frames) (moved core.function arrived.block arrived.at a)) k in
                inl (after_arrival (once same (step_leads (next ∙ ap (λ g. Goes (At arrived.left arrived.ends frames (record c { function = g; block = arrived.block; at = arrived.at + 1 }))) (sym kept)))
                (Here ops arrived.left arrived.ends c arrived.block (arrived.at + 1) (kept ∙ of) arrived.cut)))
            on (PutsByte byte c) k =
                let kept : c.function ≡ core.function = stays_in (PutsByte byte c) k in
                let next : step p args pieces_at ≡ Puts byte (At arrived.left arrived.ends frames (placed core.function arrived.block (arrived.at + 1) c)) = there_too ∙ ap (λ a. goes_on (At arrived.left arrived.ends frames) (moved core.function arrived.block arrived.at a)) k in
                after_arrival (once same (step_puts (next ∙ ap (λ g. Puts byte (At arrived.left arrived.ends frames (record c { function = g; block = arrived.block; at = arrived.at + 1 }))) (sym kept)))
                (Here ops arrived.left arrived.ends c arrived.block (arrived.at + 1) (kept ∙ of) arrived.cut))
            on (Told event c) k =
                let kept : c.function ≡ core.function = stays_in (Told event c) k in
                let next : step p args pieces_at ≡ Tells event (At arrived.left arrived.ends frames (placed core.function arrived.block (arrived.at + 1) c)) = there_too ∙ ap (λ a. goes_on (At arrived.left arrived.ends frames) (moved core.function arrived.block arrived.at a)) k in
                after_arrival (once same (step_tells (next ∙ ap (λ g. Tells event (At arrived.left arrived.ends frames (record c { function = g; block = arrived.block; at = arrived.at + 1 }))) (sym kept)))
                (Here ops arrived.left arrived.ends c arrived.block (arrived.at + 1) (kept ∙ of) arrived.cut))
            on (Ran outcome c) k = tt
            on (Stuck reason) k = tt

        -- a call is made
        calls : (into : Option ℕ) (g : ℕ) (values : List Value) → step p args pieces_at ≡ Goes (Calling g values (waiting there into arrived.left arrived.ends ∷ frames) there) → Onto whole_at from [] (Calling g values (waiting core into ops nothing ∷ []) core)
        calls into g values h = after_arrival (once same (step_leads h) (Called g values (waiting core into ops nothing) (waiting there into arrived.left arrived.ends) core arrived.block arrived.at (record {
          nothing_behind = refl;
          cut = arrived.cut;
          whole_graph = of;
          graph = of;
          vars = refl;
          into = refl;
        })))

      module _ (into : Option ℕ) (g : ℕ) (xs : List COperand) (ops : List LlOp) (core : Core) (from : State) (of : core.function ≡ f) (arrived : Arrived e (op.Call into g xs) (ops ++ rest) from core) where
        abbrev arguments : List Value
        arguments = operands core.vars xs

        abbrev call_there : Core
        call_there = elsewhere arrived.block arrived.at core

        call_of : (b : Bool) → any_unset (operands core.vars xs) ≡ b → Keeps (At (op.Call into g xs ∷ ops) nothing [] core) from (cond b (Sticks IsUnset) (Goes (Calling g (operands core.vars xs) (waiting core into ops nothing ∷ []) core)))
        call_of true k = tt
        call_of false k = inl (calls (op.Call into g xs) ops core from of arrived into g arguments (ap (λ b. cond b (Sticks IsUnset) (Goes (Calling g arguments (waiting call_there into arrived.left arrived.ends ∷ frames) call_there))) k))

        called_kept : Keeps (At (op.Call into g xs ∷ ops) nothing [] core) from (step p args (At (op.Call into g xs ∷ ops) nothing [] core))
        called_kept = call_of (any_unset (operands core.vars xs)) refl

      module _ (into : Option ℕ) (result : LlType) (params : List LlType) (b : ℕ) (xs : List COperand) (ops : List LlOp) (core : Core) (from : State) (of : core.function ≡ f) (arrived : Arrived e (op.CallFn into result params b xs) (ops ++ rest) from core) where
        abbrev passed : List Value
        passed = operands core.vars xs

        abbrev call_at : Core
        call_at = elsewhere arrived.block arrived.at core

        abbrev whole : State
        whole = At (op.CallFn into result params b xs ∷ ops) nothing [] core

        abbrev waits_here : Frame
        waits_here = waiting core into ops nothing

        abbrev waits_there : Frame
        waits_there = waiting call_at into arrived.left arrived.ends

        abbrev piece_at : State
        piece_at = At (op.CallFn into result params b xs ∷ arrived.left) arrived.ends frames call_at

        fits : (g : ℕ) (graph : LlGraph) (t : Bool) → step p args piece_at ≡ cond t (Goes (Calling g passed (waits_there ∷ frames) call_at)) (Sticks Signature) → Keeps whole from (cond t (Goes (Calling g passed (waits_here ∷ []) core)) (Sticks Signature))
        fits g graph true h = inl (calls (op.CallFn into result params b xs) ops core from of arrived into g passed h)
        fits g graph false h = tt

        as_graph : (g : ℕ) (o : Option LlGraph) → step p args piece_at ≡ called_as (c_result result) (map c_type params) g passed (waits_there ∷ frames) call_at o → Keeps whole from (called_as (c_result result) (map c_type params) g passed (waits_here ∷ []) core o)
        as_graph g None h = tt
        as_graph g (Some graph) h = fits g graph (same_result (c_result graph.result) (c_result result) && same_types (param_types graph) (map c_type params)) h

        as_value : (g : Option ℕ) → step p args piece_at ≡ called_value p (c_result result) (map c_type params) g passed (waits_there ∷ frames) call_at → Keeps whole from (called_value p (c_result result) (map c_type params) g passed (waits_here ∷ []) core)
        as_value None h = tt
        as_value (Some g) h = as_graph g (slice_get p.graphs g) h

        value_of : (t : Bool) → step p args piece_at ≡ cond t (Sticks IsUnset) (called_value p (c_result result) (map c_type params) (fun_of (read core.vars b)) passed (waits_there ∷ frames) call_at)
            → Keeps whole from (cond t (Sticks IsUnset) (called_value p (c_result result) (map c_type params) (fun_of (read core.vars b)) passed (waits_here ∷ []) core))
        value_of true h = tt
        value_of false h = as_value (fun_of (read core.vars b)) h

        value_kept : Keeps whole from (step p args whole)
        value_kept = value_of (is_unset (read core.vars b) || any_unset passed) refl

      raised_kept : (a : ℕ) (ops : List LlOp) (core : Core) (from : State) → Keeps (At (op.Raise a ∷ ops) nothing [] core) from (step p args (At (op.Raise a ∷ ops) nothing [] core))
      raised_kept a ops core from = on (is_unset (read core.vars a))
        where
          leaves_so : (ops : List LlOp) (s : State) → Keeps s from (caught p (read core.vars a) ops nothing [] core)
          leaves_so [] s = inr tt
          leaves_so (o ∷ ops) s = inr tt

          on : (t : Bool) → Keeps (At (op.Raise a ∷ ops) nothing [] core) from (cond t (Sticks IsUnset) (caught p (read core.vars a) ops nothing [] core))
          on true = tt
          on false = leaves_so ops _

      operation_kept : (o : LlOp) (ops : List LlOp) (core : Core) (from : State) (of : core.function ≡ f) (arrived : Arrived e o (ops ++ rest) from core) → Keeps (At (o ∷ ops) nothing [] core) from (step p args (At (o ∷ ops) nothing [] core))
      operation_kept (op.Call into g xs) ops core from of arrived = called_kept into g xs ops core from of arrived
      operation_kept (op.CallFn into result params b xs) ops core from of arrived = value_kept into result params b xs ops core from of arrived
      operation_kept (op.Raise a) ops core from of arrived = raised_kept a ops core from
      operation_kept (op.Set a x) ops core from of arrived = ordinary (op.Set a x) ops core from of arrived (λ ops e frames c. refl)
      operation_kept (op.Unary a o x) ops core from of arrived = ordinary (op.Unary a o x) ops core from of arrived (λ ops e frames c. refl)
      operation_kept (op.Binary a o x y) ops core from of arrived = ordinary (op.Binary a o x y) ops core from of arrived (λ ops e frames c. refl)
      operation_kept (op.GetField a n b k) ops core from of arrived = ordinary (op.GetField a n b k) ops core from of arrived (λ ops e frames c. refl)
      operation_kept (op.SetField n b k x) ops core from of arrived = ordinary (op.SetField n b k x) ops core from of arrived (λ ops e frames c. refl)
      operation_kept (op.GetItem a n b i) ops core from of arrived = ordinary (op.GetItem a n b i) ops core from of arrived (λ ops e frames c. refl)
      operation_kept (op.SetItem n b i x) ops core from of arrived = ordinary (op.SetItem n b i x) ops core from of arrived (λ ops e frames c. refl)
      operation_kept (op.New a m n) ops core from of arrived = ordinary (op.New a m n) ops core from of arrived (λ ops e frames c. refl)
      operation_kept (op.NewArray a m n x) ops core from of arrived = ordinary (op.NewArray a m n x) ops core from of arrived (λ ops e frames c. refl)
      operation_kept (op.Free a) ops core from of arrived = ordinary (op.Free a) ops core from of arrived (λ ops e frames c. refl)
      operation_kept (op.Step x) ops core from of arrived = ordinary (op.Step x) ops core from of arrived (λ ops e frames c. refl)
      operation_kept (op.ExcType a n) ops core from of arrived = ordinary (op.ExcType a n) ops core from of arrived (λ ops e frames c. refl)
      operation_kept (op.ExcValue a n) ops core from of arrived = ordinary (op.ExcValue a n) ops core from of arrived (λ ops e frames c. refl)
      operation_kept (op.ExcSet a b) ops core from of arrived = ordinary (op.ExcSet a b) ops core from of arrived (λ ops e frames c. refl)
      operation_kept op.ExcClear ops core from of arrived = ordinary op.ExcClear ops core from of arrived (λ ops e frames c. refl)
      operation_kept (op.Argc a) ops core from of arrived = ordinary (op.Argc a) ops core from of arrived (λ ops e frames c. refl)
      operation_kept (op.ArgLen a x) ops core from of arrived = ordinary (op.ArgLen a x) ops core from of arrived (λ ops e frames c. refl)
      operation_kept (op.Arg a x y) ops core from of arrived = ordinary (op.Arg a x y) ops core from of arrived (λ ops e frames c. refl)
      operation_kept (op.Put x) ops core from of arrived = ordinary (op.Put x) ops core from of arrived (λ ops e frames c. refl)

      -- ---- at a call

      enters_kept : (g : ℕ) (values : List Value) (frame piece : Frame) (core : Core) (block at : ℕ) → Waits frame piece → (callee : LlGraph) (o : Option LlBlock) → step p args (Calling g values (piece ∷ frames) (elsewhere block at core)) ≡ enters g values (piece ∷ frames) (elsewhere block at core) callee o
          → Keeps (Calling g values (frame ∷ []) core) (Calling g values (piece ∷ frames) (elsewhere block at core)) (enters g values (frame ∷ []) core callee o)
      enters_kept g values frame piece core block at waits callee None h = tt
      enters_kept g values frame piece core block at waits callee (Some first) h = inl (once refl (step_leads h) (Within (At first.ops first.exit [] (record core { function = g; block = 0; at = 0; vars = values ++ replicate (length callee.types - length callee.params) Unset })) frame piece waits))

      entered_kept : (g : ℕ) (values : List Value) (frame piece : Frame) (core : Core) (block at : ℕ) → Waits frame piece → (o : Option LlGraph) → step p args (Calling g values (piece ∷ frames) (elsewhere block at core)) ≡ entered g values (piece ∷ frames) (elsewhere block at core) o
          → Keeps (Calling g values (frame ∷ []) core) (Calling g values (piece ∷ frames) (elsewhere block at core)) (entered g values (frame ∷ []) core o)
      entered_kept g values frame piece core block at waits None h = tt
      entered_kept g values frame piece core block at waits (Some callee) h = enters_kept g values frame piece core block at waits callee (slice_get callee.blocks 0) h

      -- ---- within it

      returned_kept : (value : Value) (core : Core) (frame piece : Frame) → Waits frame piece → Keeps (Returning value (frame ∷ []) core) (Returning value (piece ∷ frames) core) (Goes (At frame.ops frame.exit [] (record (resumed frame core) { vars = taken_by frame.vars frame.into value })))
      returned_kept value core frame piece w =
          let after : Core = record core { function = f; block = frame.block; at = frame.at; vars = taken_by frame.vars frame.into value } in
          let there : Goes (At piece.ops piece.exit frames (record (resumed piece core) { vars = taken_by piece.vars piece.into value })) ≡ Goes (At piece.ops piece.exit frames (elsewhere piece.block piece.at after)) =
          ap (λ g. Goes (At piece.ops piece.exit frames (record core { function = g; block = piece.block; at = piece.at; vars = taken_by piece.vars piece.into value }))) w.graph
          ∙ ap (λ vs. Goes (At piece.ops piece.exit frames (record core { function = f; block = piece.block; at = piece.at; vars = taken_by vs piece.into value }))) w.vars
          ∙ ap (λ i. Goes (At piece.ops piece.exit frames (record core { function = f; block = piece.block; at = piece.at; vars = taken_by frame.vars i value }))) w.into in
          let here : At frame.ops nothing [] after ≡ At frame.ops frame.exit [] (record (resumed frame core) { vars = taken_by frame.vars frame.into value }) =
          ap (λ x. At frame.ops x [] after) (sym w.nothing_behind)
          ∙ ap (λ g. At frame.ops frame.exit [] (record core { function = g; block = frame.block; at = frame.at; vars = taken_by frame.vars frame.into value })) (sym w.whole_graph) in
          subst (λ (t : State). Keeps (Returning value (frame ∷ []) core) (Returning value (piece ∷ frames) core) (Goes t)) here
          (inl (once refl (step_leads there) (Here frame.ops piece.ops piece.exit after piece.block piece.at refl w.cut)))

      thrown_kept : (value : Value) (core : Core) (frame piece : Frame) → Waits frame piece → Keeps (Throwing value (frame ∷ []) core) (Throwing value (piece ∷ frames) core) (caught p value frame.ops frame.exit [] (resumed frame core))
      thrown_kept value core frame piece w = subst (λ (x : LlExit). Keeps (Throwing value (frame ∷ []) core) (Throwing value (piece ∷ frames) core) (caught p value frame.ops x [] (resumed frame core))) (sym w.nothing_behind) (on frame.ops)
        where
          on : (ops : List LlOp) → Keeps (Throwing value (frame ∷ []) core) (Throwing value (piece ∷ frames) core) (caught p value ops nothing [] (resumed frame core))
          on [] = inr tt
          on (o ∷ ops) = inr tt

      over_kept : (s : State) (frame piece : Frame) → Waits frame piece → (next : Next) → step p args (over (frame ∷ []) s) ≡ next_over (frame ∷ []) next → step p args (over (piece ∷ frames) s) ≡ next_over (piece ∷ frames) next → Keeps (over (frame ∷ []) s) (over (piece ∷ frames) s) (step p args (over (frame ∷ []) s))
      over_kept s frame piece w next h k = subst (Keeps (over (frame ∷ []) s) (over (piece ∷ frames) s)) (sym h) (on next k)
        where
          same : stored (over (piece ∷ frames) s) ≡ stored (over (frame ∷ []) s)
          same = stored_over (piece ∷ frames) p args s ∙ sym (stored_over (frame ∷ []) p args s)

          on : (next : Next) → step p args (over (piece ∷ frames) s) ≡ next_over (piece ∷ frames) next → Keeps (over (frame ∷ []) s) (over (piece ∷ frames) s) (next_over (frame ∷ []) next)
          on (Goes t) k = inl (once same (step_leads k) (Within t frame piece w))
          on (Puts byte t) k = once same (step_puts k) (Within t frame piece w)
          on (Tells event t) k = once same (step_tells k) (Within t frame piece w)
          on (Ends outcome core) k = tt
          on (Sticks reason) k = tt

      within_kept : (s : State) (frame piece : Frame) → Waits frame piece → Keeps (over (frame ∷ []) s) (over (piece ∷ frames) s) (step p args (over (frame ∷ []) s))
      within_kept (Calling g values below core) frame piece w = over_kept (Calling g values below core) frame piece w (step p args (Calling g values below core)) (entered_over (frame ∷ []) p args g values below core (slice_get p.graphs g)) (entered_over (piece ∷ frames) p args g values below core (slice_get p.graphs g))
      within_kept (At [] x below core) frame piece w = over_kept (At [] x below core) frame piece w (step p args (At [] x below core)) (leaves_over (frame ∷ []) p args x below core) (leaves_over (piece ∷ frames) p args x below core)
      within_kept (At (o ∷ ops) x below core) frame piece w = over_kept (At (o ∷ ops) x below core) frame piece w (step p args (At (o ∷ ops) x below core)) (operates_over (frame ∷ []) p args o ops x below core) (operates_over (piece ∷ frames) p args o ops x below core)
      within_kept (Returning value (inner ∷ below) core) frame piece w = over_kept (Returning value (inner ∷ below) core) frame piece w (step p args (Returning value (inner ∷ below) core)) refl refl
      within_kept (Throwing value (inner ∷ below) core) frame piece w = over_kept (Throwing value (inner ∷ below) core) frame piece w (step p args (Throwing value (inner ∷ below) core)) (caught_over (frame ∷ []) p args value inner.ops inner.exit below (resumed inner core)) (caught_over (piece ∷ frames) p args value inner.ops inner.exit below (resumed inner core))
      within_kept (Returning value [] core) frame piece w = returned_kept value core frame piece w
      within_kept (Throwing value [] core) frame piece w = thrown_kept value core frame piece w

      -- ---- ways

      step_kept : {s x : State} → Stands s x → PassesSet p args x → Keeps s x (step p args s)
      step_kept (Here [] left ends core block at of cut) set = tt
      step_kept (Here (o ∷ ops) left ends core block at of cut) set = operation_kept o ops core (At left ends frames (elsewhere block at core)) of (arrive o (ops ++ rest) core block at of cut refl set)
      step_kept (Called g values frame piece core block at waits) set = entered_kept g values frame piece core block at waits (slice_get p.graphs g) refl
      step_kept (Within s frame piece waits) set = within_kept s frame piece waits

      -- out of it no way leads back
      out_ends : {t u : State} {text : List ℕ} → IsOut t → Path p args t text u → IsInside u → ⊥
      out_ends {t = Throwing value [] core} out (Stay _) inside = inside
      out_ends {t = Throwing value [] core} out (Go h path) inside = absurd (cc)
      out_ends {t = Throwing value [] core} out (Put h path) inside = absurd (cc)
      out_ends {t = Throwing value [] core} out (Tell h path) inside = absurd (cc)
      out_ends {t = Throwing value (_ ∷ _) core} out path inside = absurd out
      out_ends {t = Calling _ _ _ core} out path inside = absurd out
      out_ends {t = At _ _ _ core} out path inside = absurd out
      out_ends {t = Returning _ _ core} out path inside = absurd out

      record Along (most : ℕ) (x : State) (text : List ℕ) (u : State) : Type 0 where
        state : State
        leads : Leads p args most x text state
        stands : Stands u state

      on_then : {m n : ℕ} {s x t u : State} {first text : List ℕ} → (stored s + n) ≡ m → (k : Onto s x first t) → Along n k.state text u → Along m x (first ++ text) u
      on_then {m = m} {n = n} {s = s} {x = x} {first = first} {text = text} same k rest = record {
        state = rest.state;
        leads = subst (λ z. Leads p args z x (first ++ text) rest.state) same (leads_then k.leads rest.leads);
        stands = rest.stands;
      }

      go_along : {s x t u : State} {text : List ℕ} (path : Path p args t text u) → IsInside u → ((y : State) → Stands t y → PassesSet p args y → Along (total path) y text u) → Keeps s x (Goes t) → PassesSet p args x → Along (stored s + total path) x text u
      go_along path inside go (inl k) set = on_then refl k (go k.state k.stands (set_along k.leads.path set))
      go_along path inside go (inr out) set = absurd (out_ends out path inside)

      along : {s x u : State} {text : List ℕ} → Stands s x → PassesSet p args x → (path : Path p args s text u) → IsInside u → Along (total path) x text u
      along {x = x} stands set (Stay s) inside = record { state = x; leads = record { path = Stay x; few = omega arith }; stands = stands }
      along {s = s} {x = x} {u = u} stands set (Go {t = t} {text = text} h path) inside = go_along path inside (λ y stands set. along stands set path inside) (subst (Keeps s x) h (step_kept stands set)) set
      along {s = s} {x = x} stands set (Put {t = t} {byte = byte} h path) inside =
          let k : Onto s x (byte ∷ []) t = subst (Keeps s x) h (step_kept stands set) in on_then refl k (along k.stands (set_along k.leads.path set) path inside)
      along {s = s} {x = x} stands set (Tell {t = t} {event = event} h path) inside =
          let k : Onto s x [] t = subst (Keeps s x) h (step_kept stands set) in on_then refl k (along k.stands (set_along k.leads.path set) path inside)

pub cut_ways_lead_on : CutWaysLeadOn
cut_ways_lead_on p args f graph v by rest e frames most ops left ends core block at text u known of cut set leads inside =
    let follows = along p args f graph known frames v by rest e (Here ops left ends core block at of cut) set leads.path inside in
    record { state = follows.state; leads = leads_more (total leads.path) most leads.few follows.leads; stands = follows.stands }
