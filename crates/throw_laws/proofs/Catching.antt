-- Step by step, the pieces follow the operations.
use Rattle.std.proofs.Common.{◌≡◌, ◌⊎◌, inl, inr, ℕ, zero, suc, ◌+◌, ◌==◌, Bool, true, false, ◌||◌, List, [], ◌∷◌, ◌++◌, map, length, Option, Some, None, refl, sym, ap, ◌∙◌, subst, arith, ◌-◌}
use Rattle.std.specs.Prelude.{slice_get, slice_set, replicate, cond, ◌&&◌}
use Rattle.std.proofs.lemmas.Bool.Decides.{nat_tests}
use Rattle.rpy_base.specs.declared.outcome.Outcome.{Outcome}
use Rattle.csub_tree.specs.State.{Value, Unset, Core, Event, After, Onward, Puts as PutsByte, Told, Over as Ran, Stuck}
use Rattle.csub_tree.specs.Operation.{is_unset}
use Rattle.csub_tree.specs.Statement.{read, operands, any_unset, fun_of, same_result, same_types, taken_by}
use Rattle.csub_tree.specs.declared.stuck.StuckReason.TheVariants.{Unset as IsUnset, Signature, Outside}
use Rattle.csub_tree.specs.declared.tree.COperand.{COperand}
use Rattle.csub_tree.specs.declared.tree.COperand.TheVariants.{Var}
use Rattle.ll_code.specs.State.{Frame, State, Calling, At, Returning, Throwing, Next, Goes, Puts, Tells, Ends, Sticks}
use Rattle.ll_code.specs.Machine.{step, does, goes_on, begins, block_in, set_all, resumed, waiting, caught, entered, enters, called_as, called_value, c_result, c_type, param_types, jump}
use Rattle.ll_code.specs.declared.program.LlType.{LlType}
use Rattle.ll_code.specs.declared.program.LlLink.{LlLink}
use Rattle.ll_code.specs.declared.program.LlOp.{LlOp}
use Rattle.ll_code.specs.declared.program.LlOp.TheVariants as op
use Rattle.ll_code.specs.declared.program.LlExit.{LlExit}
use Rattle.ll_code.specs.declared.program.LlExit.TheVariants as exit
use Rattle.ll_code.specs.declared.program.LlBlock.{LlBlock}
use Rattle.ll_code.specs.declared.program.LlGraph.{LlGraph}
use Rattle.ll_code.specs.declared.program.LlProgram.{LlProgram}
use Rattle.ll_leads.specs.Path.{Path, Stay, Go, Put, Tell}
use Rattle.ll_leads.specs.Lifted.{over, next_over}
use Rattle.ll_leads.proofs.Joined.{path_then}
use Rattle.ll_leads.proofs.Lifting.{entered_over, leaves_over, operates_over, caught_over}
use Rattle.ll_live.specs.Live.{among}
use Rattle.cut_laws.proofs.Moving.{placed, moved, does_moved}
use Rattle.throw_laws.specs.Pieces.{AreSet, is_quiet, AreQuiet, EndsQuietly, IsCut, Whole, Last, Piece, nowhere, elsewhere, IsCaught, WaitsSo, IsSilent, StandsCut, Here, Called, Within, IsInside, IsReady, Comes, EndsCut, CaughtBy, IsSetting, LeavesCut, CallsCut, CallsAreMade, CutWaysLeadOn, ExceptionsAreCaught, RaisesAreCaught, PiecesGoOn, PiecesEnd}
use Rattle.throw_laws.proofs.Entering.{NextEntered, next_entered}

set_again : (vars : List Value) (v : ℕ) → slice_set vars v (read vars v) ≡ vars
set_again [] v = refl
set_again (x ∷ vars) zero = refl
set_again (x ∷ vars) (suc v) = ap (λ vs. x ∷ vs) (set_again vars v)

-- variables that take their own values are as they were
pub own : (inputs : List ℕ) (vars : List Value) → set_all vars inputs (operands vars (map Var inputs)) ≡ vars
own [] vars = refl
own (v ∷ inputs) vars = ap (λ vs. set_all vs inputs (operands vars (map Var inputs))) (set_again vars v) ∙ own inputs vars

same_number : (v : ℕ) → (v == v) ≡ true
same_number v = grind (arith, nat_tests)

-- none of them is unset
pub own_set : (inputs : List ℕ) (vars : List Value) → AreSet inputs vars → any_unset (operands vars (map Var inputs)) ≡ false
own_set [] vars set = refl
own_set (v ∷ inputs) vars set =
    ap (λ b. b || any_unset (operands vars (map Var inputs))) (set v (ap (λ b. b || among v inputs) (same_number v)))
    ∙ own_set inputs vars (λ u h. set u (second (v == u) (among u inputs) h))
  where
    second : (b c : Bool) → c ≡ true → (b || c) ≡ true
    second true c h = refl
    second false c h = h

beyond : {A : Type 0} (xs : List A) → slice_get xs (length xs) ≡ None
beyond [] = refl
beyond (x ∷ xs) = beyond xs

-- the next piece begins, whose variables are set
pub goes_by : (p : LlProgram) (frames : List Frame) (f : ℕ) (graph : LlGraph) → slice_get p.graphs f ≡ Some graph → (core : Core) (next : LlLink) (piece : LlBlock) → core.function ≡ f → slice_get graph.blocks next.to ≡ Some piece → next.args ≡ map Var piece.inputs → AreSet piece.inputs core.vars
    → jump p frames core next ≡ Goes (At piece.ops piece.exit frames (elsewhere next.to 0 core))
goes_by p frames f graph known core next piece of is same set =
    let u : any_unset (operands core.vars next.args) ≡ false = ap (λ xs. any_unset (operands core.vars xs)) same ∙ own_set piece.inputs core.vars set in
    ap (λ b. cond b (Sticks IsUnset) (begins frames core next.to (operands core.vars next.args) (block_in (slice_get p.graphs core.function) next.to))) u
    ∙ ap (begins frames core next.to (operands core.vars next.args)) (ap (λ g. block_in (slice_get p.graphs g) next.to) of ∙ ap (λ o. block_in o next.to) known ∙ is)
    ∙ ap (λ xs. Goes (At piece.ops piece.exit frames (record core { block = next.to; at = 0; vars = set_all core.vars piece.inputs (operands core.vars xs) }))) same
    ∙ ap (λ vs. Goes (At piece.ops piece.exit frames (record core { block = next.to; at = 0; vars = vs }))) (own piece.inputs core.vars)

module _ (p : LlProgram) (args : List (List ℕ)) where
  goes_so : {s t : State} → step p args s ≡ Goes t → Path p args s [] t
  goes_so {s = s} {t = t} h = Go h (Stay t)

  puts_so : {s t : State} {byte : ℕ} → step p args s ≡ Puts byte t → Path p args s (byte ∷ []) t
  puts_so {s = s} {t = t} h = Put h (Stay t)

  tells_so : {s t : State} {event : Event} → step p args s ≡ Tells event t → Path p args s [] t
  tells_so {s = s} {t = t} h = Tell h (Stay t)

  -- an operation stays in its graph
  abbrev pub function_in : ℕ → After → ℕ
  function_in g (Onward c) = c.function
  function_in g (PutsByte byte c) = c.function
  function_in g (Told event c) = c.function
  function_in g other = g

  function_moved : (g block at : ℕ) (a : After) → function_in g (moved g block at a) ≡ g
  function_moved g block at (Onward c) = refl
  function_moved g block at (PutsByte byte c) = refl
  function_moved g block at (Told event c) = refl
  function_moved g block at (Ran outcome c) = refl
  function_moved g block at (Stuck reason) = refl

  pub stays : (core : Core) (o : LlOp) (after : After) → does p args core o ≡ after → function_in core.function after ≡ core.function
  stays core o after h = ap (function_in core.function) (sym h ∙ does_moved core.function core.block core.at core p args o) ∙ function_moved core.function core.block core.at (does p args core o)

  module _ (quiet : ℕ → Bool) (needed : List LlOp → List ℕ) (f : ℕ) (graph : LlGraph) (v : ℕ) (by : LlLink) (e : LlExit) (setting : IsSetting p args quiet f graph) (frames : List Frame) where
    abbrev Cut : List LlOp → LlExit → List LlOp → LlExit → Type 0
    Cut = IsCut quiet needed graph.blocks v by

    abbrev pub Stands : State → State → Type 0
    Stands = StandsCut p args quiet needed f graph v by e frames

    abbrev Waits : Frame → Frame → Type 0
    Waits = WaitsSo p args quiet needed f graph v by e

    abbrev Silent : State → Type 0
    Silent = IsSilent p args quiet needed f graph v by e

    abbrev pub Ready : State → Type 0
    Ready = IsReady p args quiet needed f graph v by e

    abbrev pub Inside : State → Type 0
    Inside = IsInside p args quiet needed f graph v by e

    abbrev Coming : State → Next → Type 0
    Coming = Comes p args quiet needed f graph v by e

    abbrev EndsSo : Outcome → Core → State → Type 0
    EndsSo = EndsCut p args quiet needed f graph v by e

    abbrev pub stop : LlExit
    stop = nowhere graph

    -- ---- what stays true along a way

    ready_along : {s t : State} {text : List ℕ} → Path p args s text t → Ready s → Ready t
    ready_along {text = text} path ready left end more rest = ready left end (text ++ more) (path_then path rest)

    silent_along : {s t : State} {text : List ℕ} → Path p args s text t → Silent s → Silent t
    silent_along {text = text} path silent end more x rest = silent end (text ++ more) x (path_then path rest)

    -- ---- where the pieces come to the next operation

    record Arrived (e2 : LlExit) (o : LlOp) (more : List LlOp) (from : State) (core : Core) : Type 0 where
      block : ℕ
      at : ℕ
      left : List LlOp
      ends : LlExit
      path : Path p args from [] (At (o ∷ left) ends frames (elsewhere block at core))
      cut : Cut more e2 left ends
      safe : (is_quiet quiet o ≡ true) ⊎ IsCaught v by left ends

    safe_of : (o : LlOp) (ops : List LlOp) (next : LlLink) → EndsQuietly quiet (o ∷ ops) → (is_quiet quiet o ≡ true) ⊎ IsCaught v by ops (exit.OnRaise v (Some by) next)
    safe_of o [] next h = inr (refl, (next, refl))
    safe_of o (o2 ∷ ops) next h = inl h.0

    quiet_rest : (o : LlOp) (ops : List LlOp) → EndsQuietly quiet (o ∷ ops) → EndsQuietly quiet ops
    quiet_rest o [] h = tt
    quiet_rest o (o2 ∷ ops) h = h.1

    goes_next : (core : Core) (block at : ℕ) (next : LlLink) (piece : LlBlock) → core.function ≡ f → slice_get graph.blocks next.to ≡ Some piece → next.args ≡ map Var piece.inputs → AreSet piece.inputs core.vars
        → step p args (At [] (exit.OnRaise v (Some by) next) frames (elsewhere block at core)) ≡ Goes (At piece.ops piece.exit frames (elsewhere next.to 0 core))
    goes_next core block at next piece of is same set = goes_by p frames f graph setting.is (elsewhere block at core) next piece of is same set

    arrive : {all left : List LlOp} {e2 ends : LlExit} (o : LlOp) (more : List LlOp) (core : Core) (block at : ℕ) → core.function ≡ f → Cut all e2 left ends → all ≡ o ∷ more → AreSet (needed (o ∷ more)) core.vars
        → Arrived e2 o more (At left ends frames (elsewhere block at core)) core
    arrive o more core block at of (Whole ops e quiet_all) k set = let q : AreQuiet quiet (o ∷ more) = subst (AreQuiet quiet) k quiet_all in record {
      block = block;
      at = at;
      left = more;
      ends = e;
      path = subst (λ ops. Path p args (At ops e frames (elsewhere block at core)) [] (At (o ∷ more) e frames (elsewhere block at core))) (sym k) (Stay _);
      cut = Whole more e q.1;
      safe = inl q.0;
    }
    arrive o more core block at of (Last ops link so) k set = let q : EndsQuietly quiet (o ∷ more) = subst (EndsQuietly quiet) k so in record {
      block = block;
      at = at;
      left = more;
      ends = exit.OnRaise v (Some by) link;
      path = subst (λ ops. Path p args (At ops (exit.OnRaise v (Some by) link) frames (elsewhere block at core)) [] (At (o ∷ more) (exit.OnRaise v (Some by) link) frames (elsewhere block at core))) (sym k) (Stay _);
      cut = Last more link (quiet_rest o more q);
      safe = safe_of o more link q;
    }
    arrive o more core block at of (Piece [] rest e next piece is same so near cut) k set =
        let here : AreSet (needed rest) core.vars = subst (λ ops. AreSet (needed ops) core.vars) (sym k) set in
        let one : step p args (At [] (exit.OnRaise v (Some by) next) frames (elsewhere block at core)) ≡ Goes (At piece.ops piece.exit frames (elsewhere next.to 0 core)) = goes_next core block at next piece of is same (λ u h. here u (near u h)) in
        let inner = arrive o more core next.to 0 of cut k set in
        record { block = inner.block; at = inner.at; left = inner.left; ends = inner.ends; path = Go one inner.path; cut = inner.cut; safe = inner.safe }
    arrive o more core block at of (Piece (o2 ∷ ops) rest e next piece is same so near cut) k set =
        let first : o2 ≡ o = cc in
        let others : ops ++ rest ≡ more = cc in
        record {
          block = block;
          at = at;
          left = ops;
          ends = exit.OnRaise v (Some by) next;
          path = subst (λ o2. Path p args (At (o2 ∷ ops) (exit.OnRaise v (Some by) next) frames (elsewhere block at core)) [] (At (o ∷ ops) (exit.OnRaise v (Some by) next) frames (elsewhere block at core))) (sym first) (Stay _);
          cut = subst (λ all. Cut all e ops (exit.OnRaise v (Some by) next)) others (Piece ops rest e next piece is same (quiet_rest o2 ops so) near cut);
          safe = subst (λ o. (is_quiet quiet o ≡ true) ⊎ IsCaught v by ops (exit.OnRaise v (Some by) next)) first (safe_of o2 ops next so);
        }

    -- ---- one step

    -- what the pieces do while the operations go from one state to the next
    pub record Onto (x : State) (text : List ℕ) (t : State) : Type 0 where
      pub state : State
      pub path : Path p args x text state
      pub stands : Stands t state

    abbrev IsOut : State → Type 0
    IsOut (Throwing value [] core) = Unit {0}
    IsOut other = ⊥

    abbrev Keeps : State → Next → Type 0
    Keeps x (Goes t) = Onto x [] t ⊎ IsOut t
    Keeps x (Puts byte t) = Onto x (byte ∷ []) t
    Keeps x (Tells event t) = Onto x [] t
    Keeps x (Ends outcome core) = EndsSo outcome core x
    Keeps x (Sticks reason) = Unit {0}

    once : {x y t : State} {text : List ℕ} → Path p args x text y → Stands t y → Onto x text t
    once {y = y} path stands = record { state = y; path = path; stands = stands }

    -- ---- at an operation

    module _ (o : LlOp) (ops : List LlOp) (core : Core) (from : State) (of : core.function ≡ f) (arrived : Arrived e o ops from core) where
      abbrev there : Core
      there = elsewhere arrived.block arrived.at core

      abbrev pieces_at : State
      pieces_at = At (o ∷ arrived.left) arrived.ends frames there

      after_arrival : {text : List ℕ} {t : State} → Onto pieces_at text t → Onto from text t
      after_arrival k = once (path_then arrived.path k.path) k.stands

      ordinary : ((ops : List LlOp) (e : LlExit) (frames : List Frame) (c : Core) → step p args (At (o ∷ ops) e frames c) ≡ goes_on (At ops e frames) (does p args c o)) → Keeps from (goes_on (At ops stop []) (does p args core o))
      ordinary h = on (does p args core o) refl
        where
          stays_in : (a : After) → does p args core o ≡ a → function_in core.function a ≡ core.function
          stays_in = stays core o

          moves : does p args there o ≡ moved core.function arrived.block arrived.at (does p args core o)
          moves = does_moved core.function arrived.block arrived.at core p args o

          there_too : step p args pieces_at ≡ goes_on (At arrived.left arrived.ends frames) (moved core.function arrived.block arrived.at (does p args core o))
          there_too = h arrived.left arrived.ends frames there ∙ ap (goes_on (At arrived.left arrived.ends frames)) moves

          on : (a : After) → does p args core o ≡ a → Keeps from (goes_on (At ops stop []) a)
          on (Onward c) k =
              let kept : c.function ≡ core.function = stays_in (Onward c) k in
              let next : step p args pieces_at ≡ Goes (At arrived.left arrived.ends frames (placed core.function arrived.block (arrived.at + 1) c)) = there_too ∙ ap (λ a. goes_on (At arrived.left arrived.ends frames) (moved core.function arrived.block arrived.at a)) k in
              inl (after_arrival (once (goes_so (next ∙ ap (λ g. Goes (At arrived.left arrived.ends frames (record c { function = g; block = arrived.block; at = arrived.at + 1 }))) (sym kept)))
              (Here ops arrived.left arrived.ends c arrived.block (arrived.at + 1) (kept ∙ of) arrived.cut)))
          on (PutsByte byte c) k =
              let kept : c.function ≡ core.function = stays_in (PutsByte byte c) k in
              let next : step p args pieces_at ≡ Puts byte (At arrived.left arrived.ends frames (placed core.function arrived.block (arrived.at + 1) c)) = there_too ∙ ap (λ a. goes_on (At arrived.left arrived.ends frames) (moved core.function arrived.block arrived.at a)) k in
              after_arrival (once (puts_so (next ∙ ap (λ g. Puts byte (At arrived.left arrived.ends frames (record c { function = g; block = arrived.block; at = arrived.at + 1 }))) (sym kept)))
              (Here ops arrived.left arrived.ends c arrived.block (arrived.at + 1) (kept ∙ of) arrived.cut))
          on (Told event c) k =
              let kept : c.function ≡ core.function = stays_in (Told event c) k in
              let next : step p args pieces_at ≡ Tells event (At arrived.left arrived.ends frames (placed core.function arrived.block (arrived.at + 1) c)) = there_too ∙ ap (λ a. goes_on (At arrived.left arrived.ends frames) (moved core.function arrived.block arrived.at a)) k in
              after_arrival (once (tells_so (next ∙ ap (λ g. Tells event (At arrived.left arrived.ends frames (record c { function = g; block = arrived.block; at = arrived.at + 1 }))) (sym kept)))
              (Here ops arrived.left arrived.ends c arrived.block (arrived.at + 1) (kept ∙ of) arrived.cut))
          on (Ran outcome c) k = record {
            core = placed core.function arrived.block arrived.at c;
            comes = record { state = pieces_at; path = arrived.path; steps = there_too ∙ ap (λ a. goes_on (At arrived.left arrived.ends frames) (moved core.function arrived.block arrived.at a)) k };
            blocks = refl;
          }
          on (Stuck reason) k = tt

      -- a call is made
      calls : (into : Option ℕ) (g : ℕ) (values : List Value) → step p args pieces_at ≡ Goes (Calling g values (waiting there into arrived.left arrived.ends ∷ frames) there) → (quiet g ≡ true) ⊎ IsCaught v by arrived.left arrived.ends → Onto from [] (Calling g values (waiting core into ops stop ∷ []) core)
      calls into g values h safe = after_arrival (once (goes_so h) (Called g values (waiting core into ops stop) (waiting there into arrived.left arrived.ends) core arrived.block arrived.at (record {
        nothing_behind = refl;
        cut = arrived.cut;
        whole_graph = of;
        piece_graph = of;
        vars = refl;
        into = refl;
      }) safe))

    not_quiet : {A : Type 0} → (false ≡ true) ⊎ A → A
    not_quiet (inl h) = absurd (cc)
    not_quiet (inr a) = a

    module _ (into : Option ℕ) (g : ℕ) (xs : List COperand) (ops : List LlOp) (core : Core) (from : State) (of : core.function ≡ f) (arrived : Arrived e (op.Call into g xs) ops from core) where
      abbrev arguments : List Value
      arguments = operands core.vars xs

      abbrev call_there : Core
      call_there = elsewhere arrived.block arrived.at core

      call_of : (b : Bool) → any_unset (operands core.vars xs) ≡ b → Keeps from (cond b (Sticks IsUnset) (Goes (Calling g (operands core.vars xs) (waiting core into ops stop ∷ []) core)))
      call_of true k = tt
      call_of false k = inl (calls (op.Call into g xs) ops core from of arrived into g arguments (ap (λ b. cond b (Sticks IsUnset) (Goes (Calling g arguments (waiting call_there into arrived.left arrived.ends ∷ frames) call_there))) k) arrived.safe)

      called_kept : Keeps from (step p args (At (op.Call into g xs ∷ ops) stop [] core))
      called_kept = call_of (any_unset (operands core.vars xs)) refl

    module _ (into : Option ℕ) (result : LlType) (params : List LlType) (b : ℕ) (xs : List COperand) (ops : List LlOp) (core : Core) (from : State) (of : core.function ≡ f) (arrived : Arrived e (op.CallFn into result params b xs) ops from core) where
      abbrev passed : List Value
      passed = operands core.vars xs

      abbrev call_at : Core
      call_at = elsewhere arrived.block arrived.at core

      abbrev waits_here : Frame
      waits_here = waiting core into ops stop

      abbrev waits_there : Frame
      waits_there = waiting call_at into arrived.left arrived.ends

      abbrev piece_at : State
      piece_at = At (op.CallFn into result params b xs ∷ arrived.left) arrived.ends frames call_at

      fits : (g : ℕ) (t : Bool) → step p args piece_at ≡ cond t (Goes (Calling g passed (waits_there ∷ frames) call_at)) (Sticks Signature) → Keeps from (cond t (Goes (Calling g passed (waits_here ∷ []) core)) (Sticks Signature))
      fits g true h = inl (calls (op.CallFn into result params b xs) ops core from of arrived into g passed h (inr (not_quiet arrived.safe)))
      fits g false h = tt

      as_graph : (g : ℕ) (o : Option LlGraph) → step p args piece_at ≡ called_as (c_result result) (map c_type params) g passed (waits_there ∷ frames) call_at o → Keeps from (called_as (c_result result) (map c_type params) g passed (waits_here ∷ []) core o)
      as_graph g None h = tt
      as_graph g (Some callee) h = fits g (same_result (c_result callee.result) (c_result result) && same_types (param_types callee) (map c_type params)) h

      as_value : (g : Option ℕ) → step p args piece_at ≡ called_value p (c_result result) (map c_type params) g passed (waits_there ∷ frames) call_at → Keeps from (called_value p (c_result result) (map c_type params) g passed (waits_here ∷ []) core)
      as_value None h = tt
      as_value (Some g) h = as_graph g (slice_get p.graphs g) h

      value_of : (t : Bool) → step p args piece_at ≡ cond t (Sticks IsUnset) (called_value p (c_result result) (map c_type params) (fun_of (read core.vars b)) passed (waits_there ∷ frames) call_at)
          → Keeps from (cond t (Sticks IsUnset) (called_value p (c_result result) (map c_type params) (fun_of (read core.vars b)) passed (waits_here ∷ []) core))
      value_of true h = tt
      value_of false h = as_value (fun_of (read core.vars b)) h

      value_kept : Keeps from (step p args (At (op.CallFn into result params b xs ∷ ops) stop [] core))
      value_kept = value_of (is_unset (read core.vars b) || any_unset passed) refl

    raised_kept : (a : ℕ) (ops : List LlOp) (core : Core) (from : State) → Keeps from (step p args (At (op.Raise a ∷ ops) stop [] core))
    raised_kept a ops core from = on (is_unset (read core.vars a))
      where
        leaves_so : (ops : List LlOp) → Keeps from (caught p (read core.vars a) ops stop [] core)
        leaves_so [] = inr tt
        leaves_so (o ∷ ops) = inr tt

        on : (t : Bool) → Keeps from (cond t (Sticks IsUnset) (caught p (read core.vars a) ops stop [] core))
        on true = tt
        on false = leaves_so ops

    operation_kept : (o : LlOp) (ops : List LlOp) (core : Core) (from : State) (of : core.function ≡ f) (arrived : Arrived e o ops from core) → Keeps from (step p args (At (o ∷ ops) stop [] core))
    operation_kept (op.Call into g xs) ops core from of arrived = called_kept into g xs ops core from of arrived
    operation_kept (op.CallFn into result params b xs) ops core from of arrived = value_kept into result params b xs ops core from of arrived
    operation_kept (op.Raise a) ops core from of arrived = raised_kept a ops core from
    operation_kept (op.Set a x) ops core from of arrived = ordinary (op.Set a x) ops core from of arrived (λ ops e frames c. refl)
    operation_kept (op.Unary a o x) ops core from of arrived = ordinary (op.Unary a o x) ops core from of arrived (λ ops e frames c. refl)
    operation_kept (op.Binary a o x y) ops core from of arrived = ordinary (op.Binary a o x y) ops core from of arrived (λ ops e frames c. refl)
    operation_kept (op.GetField a n b k) ops core from of arrived = ordinary (op.GetField a n b k) ops core from of arrived (λ ops e frames c. refl)
    operation_kept (op.SetField n b k x) ops core from of arrived = ordinary (op.SetField n b k x) ops core from of arrived (λ ops e frames c. refl)
    operation_kept (op.GetItem a n b i) ops core from of arrived = ordinary (op.GetItem a n b i) ops core from of arrived (λ ops e frames c. refl)
    operation_kept (op.SetItem n b i x) ops core from of arrived = ordinary (op.SetItem n b i x) ops core from of arrived (λ ops e frames c. refl)
    operation_kept (op.New a m n) ops core from of arrived = ordinary (op.New a m n) ops core from of arrived (λ ops e frames c. refl)
    operation_kept (op.NewArray a m n x) ops core from of arrived = ordinary (op.NewArray a m n x) ops core from of arrived (λ ops e frames c. refl)
    operation_kept (op.Free a) ops core from of arrived = ordinary (op.Free a) ops core from of arrived (λ ops e frames c. refl)
    operation_kept (op.Step x) ops core from of arrived = ordinary (op.Step x) ops core from of arrived (λ ops e frames c. refl)
    operation_kept (op.ExcType a n) ops core from of arrived = ordinary (op.ExcType a n) ops core from of arrived (λ ops e frames c. refl)
    operation_kept (op.ExcValue a n) ops core from of arrived = ordinary (op.ExcValue a n) ops core from of arrived (λ ops e frames c. refl)
    operation_kept (op.ExcSet a b) ops core from of arrived = ordinary (op.ExcSet a b) ops core from of arrived (λ ops e frames c. refl)
    operation_kept op.ExcClear ops core from of arrived = ordinary op.ExcClear ops core from of arrived (λ ops e frames c. refl)
    operation_kept (op.Argc a) ops core from of arrived = ordinary (op.Argc a) ops core from of arrived (λ ops e frames c. refl)
    operation_kept (op.ArgLen a x) ops core from of arrived = ordinary (op.ArgLen a x) ops core from of arrived (λ ops e frames c. refl)
    operation_kept (op.Arg a x y) ops core from of arrived = ordinary (op.Arg a x y) ops core from of arrived (λ ops e frames c. refl)
    operation_kept (op.Put x) ops core from of arrived = ordinary (op.Put x) ops core from of arrived (λ ops e frames c. refl)

    -- no block of the graph is beyond the last
    pub nowhere_sticks : (core : Core) → core.function ≡ f → step p args (At [] stop [] core) ≡ Sticks Outside
    nowhere_sticks core of = ap (begins [] core (length graph.blocks) []) (ap (λ g. block_in (slice_get p.graphs g) (length graph.blocks)) of ∙ ap (λ o. block_in o (length graph.blocks)) setting.is ∙ beyond graph.blocks)

    -- ---- at a call

    silent_call : (g : ℕ) (values : List Value) (core : Core) (t : State) (piece : Frame) → step p args (Calling g values [] core) ≡ Goes t → (quiet g ≡ true) ⊎ IsCaught v by piece.ops piece.exit → Silent t ⊎ IsCaught v by piece.ops piece.exit
    silent_call g values core t piece h (inl q) = inl (λ end text x path. setting.silent g q values core end text x (Go h path))
    silent_call g values core t piece h (inr c) = inr c

    entered_kept : (g : ℕ) (values : List Value) (frame piece : Frame) (core : Core) (block at : ℕ) → Waits frame piece → (quiet g ≡ true) ⊎ IsCaught v by piece.ops piece.exit → (o : Option LlGraph) → slice_get p.graphs g ≡ o
        → Keeps (Calling g values (piece ∷ frames) (elsewhere block at core)) (entered g values (frame ∷ []) core o)
    entered_kept g values frame piece core block at waits safe None is = tt
    entered_kept g values frame piece core block at waits safe (Some callee) is = on (slice_get callee.blocks 0) refl
      where
        on : (o : Option LlBlock) → slice_get callee.blocks 0 ≡ o → Keeps (Calling g values (piece ∷ frames) (elsewhere block at core)) (enters g values (frame ∷ []) core callee o)
        on None first = tt
        on (Some first) known =
            let inner : State = At first.ops first.exit [] (record core { function = g; block = 0; at = 0; vars = values ++ replicate (length callee.types - length callee.params) Unset }) in
            inl (once (goes_so (ap (entered g values (piece ∷ frames) (elsewhere block at core)) is ∙ ap (enters g values (piece ∷ frames) (elsewhere block at core) callee) known))
            (Within inner frame piece waits tt (silent_call g values core inner piece (ap (entered g values [] core) is ∙ ap (enters g values [] core callee) known) safe)))

    -- ---- within it

    returned_kept : (value : Value) (core : Core) (frame piece : Frame) → Waits frame piece → Keeps (Returning value (piece ∷ frames) core) (Goes (At frame.ops frame.exit [] (record (resumed frame core) { vars = taken_by frame.vars frame.into value })))
    returned_kept value core frame piece w =
        let after : Core = record core { function = f; block = frame.block; at = frame.at; vars = taken_by frame.vars frame.into value } in
        let there : Goes (At piece.ops piece.exit frames (record (resumed piece core) { vars = taken_by piece.vars piece.into value })) ≡ Goes (At piece.ops piece.exit frames (elsewhere piece.block piece.at after)) =
        ap (λ g. Goes (At piece.ops piece.exit frames (record core { function = g; block = piece.block; at = piece.at; vars = taken_by piece.vars piece.into value }))) w.piece_graph
        ∙ ap (λ vs. Goes (At piece.ops piece.exit frames (record core { function = f; block = piece.block; at = piece.at; vars = taken_by vs piece.into value }))) w.vars
        ∙ ap (λ i. Goes (At piece.ops piece.exit frames (record core { function = f; block = piece.block; at = piece.at; vars = taken_by frame.vars i value }))) w.into in
        let here : At frame.ops stop [] after ≡ At frame.ops frame.exit [] (record (resumed frame core) { vars = taken_by frame.vars frame.into value }) =
        ap (λ x. At frame.ops x [] after) (sym w.nothing_behind)
        ∙ ap (λ g. At frame.ops frame.exit [] (record core { function = g; block = frame.block; at = frame.at; vars = taken_by frame.vars frame.into value })) (sym w.whole_graph) in
        subst (λ (t : State). Keeps (Returning value (piece ∷ frames) core) (Goes t)) here
        (inl (once (goes_so there) (Here frame.ops piece.ops piece.exit after piece.block piece.at refl w.cut)))

    thrown_kept : (value : Value) (core : Core) (frame piece : Frame) → Waits frame piece → Keeps (Throwing value (piece ∷ frames) core) (caught p value frame.ops frame.exit [] (resumed frame core))
    thrown_kept value core frame piece w = subst (λ (x : LlExit). Keeps (Throwing value (piece ∷ frames) core) (caught p value frame.ops x [] (resumed frame core))) (sym w.nothing_behind) (on frame.ops)
      where
        on : (ops : List LlOp) → Keeps (Throwing value (piece ∷ frames) core) (caught p value ops stop [] (resumed frame core))
        on [] = inr tt
        on (o ∷ ops) = inr tt

    module _ (s : State) (frame piece : Frame) (w : Waits frame piece) (safe : Silent s ⊎ IsCaught v by piece.ops piece.exit) where
      still : {t : State} {text : List ℕ} → Path p args s text t → Silent s ⊎ IsCaught v by piece.ops piece.exit → Silent t ⊎ IsCaught v by piece.ops piece.exit
      still path (inl h) = inl (silent_along path h)
      still path (inr c) = inr c

      over_kept : (next : Next) → step p args s ≡ next → step p args (over (frame ∷ []) s) ≡ next_over (frame ∷ []) next → step p args (over (piece ∷ frames) s) ≡ next_over (piece ∷ frames) next → Keeps (over (piece ∷ frames) s) (step p args (over (frame ∷ []) s))
      over_kept next here h k = subst (Keeps (over (piece ∷ frames) s)) (sym h) (on next here k (subst NextEntered here (next_entered p args s)))
        where
          on : (next : Next) → step p args s ≡ next → step p args (over (piece ∷ frames) s) ≡ next_over (piece ∷ frames) next → NextEntered next → Keeps (over (piece ∷ frames) s) (next_over (frame ∷ []) next)
          on (Goes t) i k n = inl (once (goes_so k) (Within t frame piece w n (still (goes_so i) safe)))
          on (Puts byte t) i k n = once (puts_so k) (Within t frame piece w n (still (puts_so i) safe))
          on (Tells event t) i k n = once (tells_so k) (Within t frame piece w n (still (tells_so i) safe))
          on (Ends outcome core) i k n = record { core = core; comes = record { state = over (piece ∷ frames) s; path = Stay _; steps = k }; blocks = refl }
          on (Sticks reason) i k n = tt

    within_kept : (s : State) (frame piece : Frame) → Waits frame piece → Silent s ⊎ IsCaught v by piece.ops piece.exit → Keeps (over (piece ∷ frames) s) (step p args (over (frame ∷ []) s))
    within_kept (Calling g values below core) frame piece w safe = over_kept (Calling g values below core) frame piece w safe (step p args (Calling g values below core)) refl (entered_over (frame ∷ []) p args g values below core (slice_get p.graphs g)) (entered_over (piece ∷ frames) p args g values below core (slice_get p.graphs g))
    within_kept (At [] x below core) frame piece w safe = over_kept (At [] x below core) frame piece w safe (step p args (At [] x below core)) refl (leaves_over (frame ∷ []) p args x below core) (leaves_over (piece ∷ frames) p args x below core)
    within_kept (At (o ∷ ops) x below core) frame piece w safe = over_kept (At (o ∷ ops) x below core) frame piece w safe (step p args (At (o ∷ ops) x below core)) refl (operates_over (frame ∷ []) p args o ops x below core) (operates_over (piece ∷ frames) p args o ops x below core)
    within_kept (Returning value (inner ∷ below) core) frame piece w safe = over_kept (Returning value (inner ∷ below) core) frame piece w safe (step p args (Returning value (inner ∷ below) core)) refl refl refl
    within_kept (Throwing value (inner ∷ below) core) frame piece w safe =
        over_kept (Throwing value (inner ∷ below) core) frame piece w safe (step p args (Throwing value (inner ∷ below) core)) refl (caught_over (frame ∷ []) p args value inner.ops inner.exit below (resumed inner core)) (caught_over (piece ∷ frames) p args value inner.ops inner.exit below (resumed inner core))
    within_kept (Returning value [] core) frame piece w safe = returned_kept value core frame piece w
    within_kept (Throwing value [] core) frame piece w safe = thrown_kept value core frame piece w

    -- ---- ways

    step_kept : {s x : State} → Stands s x → Ready s → Keeps x (step p args s)
    step_kept (Here [] left ends core block at of cut) ready = subst (Keeps (At left ends frames (elsewhere block at core))) (sym (nowhere_sticks core of)) tt
    step_kept (Here (o ∷ ops) left ends core block at of cut) ready = operation_kept o ops core (At left ends frames (elsewhere block at core)) of (arrive o ops core block at of cut refl (ready (o ∷ ops) core [] (Stay _)))
    step_kept (Called g values frame piece core block at waits safe) ready = entered_kept g values frame piece core block at waits safe (slice_get p.graphs g) refl
    step_kept (Within s frame piece waits inside safe) ready = within_kept s frame piece waits safe

    -- out of it no way leads back
    out_ends : {t u : State} {text : List ℕ} → IsOut t → Path p args t text u → Inside u → ⊥
    out_ends {t = Throwing value [] core} out (Stay _) inside = inside
    out_ends {t = Throwing value [] core} out (Go h path) inside = absurd (cc)
    out_ends {t = Throwing value [] core} out (Put h path) inside = absurd (cc)
    out_ends {t = Throwing value [] core} out (Tell h path) inside = absurd (cc)
    out_ends {t = Throwing value (_ ∷ _) core} out path inside = absurd out
    out_ends {t = Calling _ _ _ core} out path inside = absurd out
    out_ends {t = At _ _ _ core} out path inside = absurd out
    out_ends {t = Returning _ _ core} out path inside = absurd out

    on_then : {x t u : State} {first text : List ℕ} → (k : Onto x first t) → Onto k.state text u → Onto x (first ++ text) u
    on_then k rest = once (path_then k.path rest.path) rest.stands

    go_along : {x t u : State} {text : List ℕ} (path : Path p args t text u) → Inside u → ((y : State) → Stands t y → Onto y text u) → Keeps x (Goes t) → Onto x text u
    go_along path inside go (inl k) = on_then k (go k.state k.stands)
    go_along path inside go (inr out) = absurd (out_ends out path inside)

    pub along : {s x u : State} {text : List ℕ} → Stands s x → Ready s → (path : Path p args s text u) → Inside u → Onto x text u
    along {x = x} stands ready (Stay s) inside = once (Stay x) stands
    along {s = s} {x = x} stands ready (Go {t = t} h path) inside = go_along path inside (λ y stands. along stands (ready_along (goes_so h) ready) path inside) (subst (Keeps x) h (step_kept stands ready))
    along {s = s} {x = x} stands ready (Put {t = t} {byte = byte} h path) inside = let k : Onto x (byte ∷ []) t = subst (Keeps x) h (step_kept stands ready) in on_then k (along k.stands (ready_along (puts_so h) ready) path inside)
    along {s = s} {x = x} stands ready (Tell {t = t} h path) inside = let k : Onto x [] t = subst (Keeps x) h (step_kept stands ready) in on_then k (along k.stands (ready_along (tells_so h) ready) path inside)

    -- ---- exceptions

    abbrev Catches : Value → List Value → Core → State → Type 0
    Catches = CaughtBy p args quiet needed f graph v by e frames

    -- what leaves a call that waits in a piece
    comes_out : (x : Value) (frame piece : Frame) (core : Core) → Waits frame piece → IsCaught v by piece.ops piece.exit → Catches x frame.vars core (Throwing x (piece ∷ frames) core)
    comes_out x frame piece core w c = record {
      block = piece.block;
      at = piece.at;
      comes = record {
        state = Throwing x (piece ∷ frames) core;
        path = Stay _;
        steps = ap (λ ops. caught p x ops piece.exit frames (resumed piece core)) c.0
            ∙ ap (λ ends. caught p x [] ends frames (resumed piece core)) c.1.1
            ∙ ap (λ g. jump p frames (record core { function = g; block = piece.block; at = piece.at; vars = slice_set piece.vars v x }) by) w.piece_graph
            ∙ ap (λ vs. jump p frames (record core { function = f; block = piece.block; at = piece.at; vars = slice_set vs v x }) by) w.vars;
      };
    }

    thrown_at : {s y : State} → Stands s y → (x : Value) (frame : Frame) (core : Core) → s ≡ Throwing x (frame ∷ []) core → Catches x frame.vars core y
    thrown_at (Here ops left ends core block at of cut) x frame c h = absurd (cc)
    thrown_at (Called g values frame piece core block at waits safe) x fr c h = absurd (cc)
    thrown_at (Within (Calling g values below core) frame piece waits inside safe) x fr c h = absurd (cc)
    thrown_at (Within (At ops ends below core) frame piece waits inside safe) x fr c h = absurd (cc)
    thrown_at (Within (Returning value below core) frame piece waits inside safe) x fr c h = absurd (cc)
    thrown_at (Within (Throwing value (inner ∷ []) core) frame piece waits inside safe) x fr c h = absurd (cc)
    thrown_at (Within (Throwing value (inner ∷ second ∷ below) core) frame piece waits inside safe) x fr c h = absurd (cc)
    thrown_at (Within (Throwing value [] core) frame piece waits inside safe) x fr c h = on safe
      where
        values_are : value ≡ x
        values_are = cc

        frames_are : frame ≡ fr
        frames_are = cc

        cores_are : core ≡ c
        cores_are = cc

        on : Silent (Throwing value [] core) ⊎ IsCaught v by piece.ops piece.exit → Catches x fr.vars c (Throwing value (piece ∷ frames) core)
        on (inl silent) = absurd (silent core [] value (Stay _))
        on (inr caught) = subst (λ (y : Value). Catches y fr.vars c (Throwing value (piece ∷ frames) core)) values_are (subst (λ (g : Frame). Catches value g.vars c (Throwing value (piece ∷ frames) core)) frames_are
            (subst (λ (d : Core). Catches value frame.vars d (Throwing value (piece ∷ frames) core)) cores_are (comes_out value frame piece core waits caught)))

    -- what is raised in a piece
    raised_at : {s y : State} → Stands s y → Ready s → (a : ℕ) (ops : List LlOp) (core : Core) → s ≡ At (op.Raise a ∷ ops) stop [] core → is_unset (read core.vars a) ≡ false → Catches (read core.vars a) core.vars core y
    raised_at (Here [] left ends core block at of cut) ready a ops c h set = absurd (cc)
    raised_at (Called g values frame piece core block at waits safe) ready a ops c h set = absurd (cc)
    raised_at (Within (Calling g values below core) frame piece waits inside safe) ready a ops c h set = absurd (cc)
    raised_at (Within (Returning value below core) frame piece waits inside safe) ready a ops c h set = absurd (cc)
    raised_at (Within (Throwing value below core) frame piece waits inside safe) ready a ops c h set = absurd (cc)
    raised_at (Within (At written ends [] core) frame piece waits inside safe) ready a ops c h set = absurd (cc)
    raised_at (Within (At written ends (inner ∷ below) core) frame piece waits inside safe) ready a ops c h set = absurd (cc)
    raised_at (Here (o ∷ more) left ends core block at of cut) ready a ops c h set = subst (λ (d : Core). Catches (read d.vars a) d.vars d (At left ends frames (elsewhere block at core))) cores_are (on arrived (subst (λ o. (is_quiet quiet o ≡ true) ⊎ IsCaught v by arrived.left arrived.ends) first_is arrived.safe))
      where
        cores_are : core ≡ c
        cores_are = cc

        first_is : o ≡ op.Raise a
        first_is = cc

        arrived : Arrived e o more (At left ends frames (elsewhere block at core)) core
        arrived = arrive o more core block at of cut refl (ready (o ∷ more) core [] (Stay _))

        here_set : is_unset (read core.vars a) ≡ false
        here_set = subst (λ (d : Core). is_unset (read d.vars a) ≡ false) (sym cores_are) set

        on : (arrived : Arrived e o more (At left ends frames (elsewhere block at core)) core) → (false ≡ true) ⊎ IsCaught v by arrived.left arrived.ends → Catches (read core.vars a) core.vars core (At left ends frames (elsewhere block at core))
        on arrived (inl h) = absurd (cc)
        on arrived (inr stands) = record {
          block = arrived.block;
          at = arrived.at;
          comes = record {
            state = At (o ∷ arrived.left) arrived.ends frames (elsewhere arrived.block arrived.at core);
            path = arrived.path;
            steps = ap (λ o. step p args (At (o ∷ arrived.left) arrived.ends frames (elsewhere arrived.block arrived.at core))) first_is
                ∙ ap (λ b. cond b (Sticks IsUnset) (caught p (read core.vars a) arrived.left arrived.ends frames (elsewhere arrived.block arrived.at core))) here_set
                ∙ ap (λ ops. caught p (read core.vars a) ops arrived.ends frames (elsewhere arrived.block arrived.at core)) stands.0
                ∙ ap (λ ends. caught p (read core.vars a) [] ends frames (elsewhere arrived.block arrived.at core)) stands.1.1
                ∙ ap (λ g. jump p frames (record core { function = g; block = arrived.block; at = arrived.at; vars = slice_set core.vars v (read core.vars a) }) by) of;
          };
        }

    -- where the operations stand, so does a piece
    pub record HereCut (ops : List LlOp) (core : Core) (from : State) : Type 0 where
      pub block : ℕ
      pub at : ℕ
      pub left : List LlOp
      pub ends : LlExit
      pub is : from ≡ At left ends frames (elsewhere block at core)
      pub of : core.function ≡ f
      pub cut : IsCut quiet needed graph.blocks v by ops e left ends

    pub here_at : {s y : State} → Stands s y → (ops : List LlOp) (core : Core) → s ≡ At ops stop [] core → HereCut ops core y
    here_at (Here ops left ends core block at of cut) all c h =
        let same : ops ≡ all = cc in
        let cores : core ≡ c = cc in
        record { block = block; at = at; left = left; ends = ends; is = ap (λ d. At left ends frames (elsewhere block at d)) cores; of = ap (λ (d : Core). d.function) (sym cores) ∙ of; cut = subst (λ ops. IsCut quiet needed graph.blocks v by ops e left ends) same cut }
    here_at (Called g values frame piece core block at waits safe) all c h = absurd (cc)
    here_at (Within (Calling g values below core) frame piece waits inside safe) all c h = absurd (cc)
    here_at (Within (Returning value below core) frame piece waits inside safe) all c h = absurd (cc)
    here_at (Within (Throwing value below core) frame piece waits inside safe) all c h = absurd (cc)
    here_at (Within (At written ends [] core) frame piece waits inside safe) all c h = absurd (cc)
    here_at (Within (At written ends (inner ∷ below) core) frame piece waits inside safe) all c h = absurd (cc)

    -- a call that waits in a piece
    called_at : {s y : State} → Stands s y → (g : ℕ) (values : List Value) (frame : Frame) (core : Core) → s ≡ Calling g values (frame ∷ []) core → quiet g ≡ false → CallsCut p args quiet needed f graph v by e frames g values frame core y
    called_at (Here ops left ends core block at of cut) g values fr c h loud = absurd (cc)
    called_at (Within (Calling k ys [] core) frame piece waits inside safe) g values fr c h loud = absurd inside
    called_at (Within (Calling k ys (inner ∷ []) core) frame piece waits inside safe) g values fr c h loud = absurd (cc)
    called_at (Within (Calling k ys (inner ∷ second ∷ below) core) frame piece waits inside safe) g values fr c h loud = absurd (cc)
    called_at (Within (At ops ends below core) frame piece waits inside safe) g values fr c h loud = absurd (cc)
    called_at (Within (Returning value below core) frame piece waits inside safe) g values fr c h loud = absurd (cc)
    called_at (Within (Throwing value below core) frame piece waits inside safe) g values fr c h loud = absurd (cc)
    called_at (Called k ys frame piece core block at waits safe) g values fr c h loud = record {
      piece = piece;
      block = block;
      at = at;
      is = ap (λ m. Calling m ys (piece ∷ frames) (elsewhere block at core)) graphs_are ∙ ap (λ zs. Calling g zs (piece ∷ frames) (elsewhere block at core)) values_are ∙ ap (λ d. Calling g values (piece ∷ frames) (elsewhere block at d)) cores_are;
      waits = subst (λ (u : Frame). Waits u piece) frames_are waits;
      caught = on safe;
    }
      where
        graphs_are : k ≡ g
        graphs_are = cc

        values_are : ys ≡ values
        values_are = cc

        frames_are : frame ≡ fr
        frames_are = cc

        cores_are : core ≡ c
        cores_are = cc

        on : (quiet k ≡ true) ⊎ IsCaught v by piece.ops piece.exit → IsCaught v by piece.ops piece.exit
        on (inl q) = absurd (let z : true ≡ false = sym q ∙ ap quiet graphs_are ∙ loud in cc)
        on (inr stands) = stands

    -- ---- ends

    abbrev Leaving : LlExit → Core → State → Type 0
    Leaving e2 = LeavesCut p args quiet needed f graph v by e2 frames

    done_at : {all left : List LlOp} {e2 ends : LlExit} (core : Core) (block at : ℕ) → core.function ≡ f → Cut all e2 left ends → all ≡ [] → AreSet (needed []) core.vars → Leaving e2 core (At left ends frames (elsewhere block at core))
    done_at core block at of (Whole ops e quiet_all) k set = subst (λ ops. Leaving e core (At ops e frames (elsewhere block at core))) (sym k) (record { block = block; at = at; comes = record { state = At [] e frames (elsewhere block at core); path = Stay _; steps = refl } })
    done_at core block at of (Last ops link so) k set = subst (λ ops. Leaving (exit.Goto link) core (At ops (exit.OnRaise v (Some by) link) frames (elsewhere block at core))) (sym k)
        (record { block = block; at = at; comes = record { state = At [] (exit.OnRaise v (Some by) link) frames (elsewhere block at core); path = Stay _; steps = refl } })
    done_at core block at of (Piece [] rest e next piece is same so near cut) k set =
        let here : AreSet (needed rest) core.vars = subst (λ ops. AreSet (needed ops) core.vars) (sym k) set in
        let one : step p args (At [] (exit.OnRaise v (Some by) next) frames (elsewhere block at core)) ≡ Goes (At piece.ops piece.exit frames (elsewhere next.to 0 core)) = goes_next core block at next piece of is same (λ u h. here u (near u h)) in
        let inner = done_at core next.to 0 of cut k set in
        record { block = inner.block; at = inner.at; comes = record { state = inner.comes.state; path = Go one inner.comes.path; steps = inner.comes.steps } }
    done_at core block at of (Piece (o2 ∷ ops) rest e next piece is same so near cut) k set = absurd (cc)

    go_on_at : {s y : State} → Stands s y → Ready s → (core : Core) → s ≡ At [] stop [] core → Leaving e core y
    go_on_at (Here [] left ends core block at of cut) ready c h = let same : core ≡ c = cc in subst (λ (d : Core). Leaving e d (At left ends frames (elsewhere block at core))) same (done_at core block at of cut refl (ready [] core [] (Stay _)))
    go_on_at (Here (o ∷ more) left ends core block at of cut) ready c h = absurd (cc)
    go_on_at (Called g values frame piece core block at waits safe) ready c h = absurd (cc)
    go_on_at (Within (Calling g values below core) frame piece waits inside safe) ready c h = absurd (cc)
    go_on_at (Within (Returning value below core) frame piece waits inside safe) ready c h = absurd (cc)
    go_on_at (Within (Throwing value below core) frame piece waits inside safe) ready c h = absurd (cc)
    go_on_at (Within (At written ends [] core) frame piece waits inside safe) ready c h = absurd (cc)
    go_on_at (Within (At written ends (inner ∷ below) core) frame piece waits inside safe) ready c h = absurd (cc)

pub cut_ways_lead_on : CutWaysLeadOn
cut_ways_lead_on p args quiet needed f graph v by e frames s x u text setting stands ready path inside =
    let k = along p args quiet needed f graph v by e setting frames stands ready path inside in
    record { state = k.state; path = k.path; stands = k.stands }

pub exceptions_are_caught : ExceptionsAreCaught
exceptions_are_caught p args quiet needed f graph v by e frames x frame core from setting stands = thrown_at p args quiet needed f graph v by e setting frames stands x frame core refl

pub raises_are_caught : RaisesAreCaught
raises_are_caught p args quiet needed f graph v by e frames a ops core from setting stands ready set = raised_at p args quiet needed f graph v by e setting frames stands ready a ops core refl set

pub pieces_go_on : PiecesGoOn
pieces_go_on p args quiet needed f graph v by e frames core from setting stands ready = go_on_at p args quiet needed f graph v by e setting frames stands ready core refl

pub pieces_end : PiecesEnd
pieces_end p args quiet needed f graph v by e frames outcome end s from setting stands ready ends = subst (Keeps p args quiet needed f graph v by e setting frames from) ends (step_kept p args quiet needed f graph v by e setting frames stands ready)

pub calls_are_made : CallsAreMade
calls_are_made p args quiet needed f graph v by e frames g values frame core from setting loud stands = called_at p args quiet needed f graph v by e setting frames stands g values frame core refl loud
