-- A step leads to a call over what waits for it.
use Rattle.std.proofs.Common.{ℕ, Bool, true, false, ◌&&◌, ◌||◌, List, [], ◌∷◌, map, Option, Some, None}
use Rattle.std.specs.Prelude.{slice_get, slice_set, cond}
use Rattle.csub_tree.specs.State.{Value, Core, After, Onward, Puts as PutsByte, Told, Over, Stuck}
use Rattle.csub_tree.specs.Operation.{is_unset, flag_of}
use Rattle.csub_tree.specs.Statement.{read, operand, operands, any_unset, fun_of, same_result, same_types, ended, fail, fail_name_of, raised}
use Rattle.csub_tree.specs.declared.tree.CType.{CType}
use Rattle.ll_code.specs.State.{Frame, State, Calling, At, Returning, Throwing, Next, Goes, Puts, Tells, Ends, Sticks}
use Rattle.ll_code.specs.Machine.{step, does, goes_on, begins, branch, jump, block_in, resumed, waiting, caught, caught_by, entered, enters, called_as, called_value, leaves, operates, c_result, c_type, param_types, shapes_of, type_in}
use Rattle.ll_code.specs.declared.program.LlOp.{LlOp}
use Rattle.ll_code.specs.declared.program.LlOp.TheVariants as op
use Rattle.ll_code.specs.declared.program.LlLink.{LlLink}
use Rattle.ll_code.specs.declared.program.LlExit.{LlExit}
use Rattle.ll_code.specs.declared.program.LlExit.TheVariants as exit
use Rattle.ll_code.specs.declared.program.LlBlock.{LlBlock}
use Rattle.ll_code.specs.declared.program.LlGraph.{LlGraph}
use Rattle.ll_code.specs.declared.program.LlProgram.{LlProgram}
use Rattle.throw_laws.specs.Pieces.{IsEntered}

abbrev pub NextEntered : Next → Type 0
NextEntered (Goes t) = IsEntered t
NextEntered (Puts byte t) = IsEntered t
NextEntered (Tells event t) = IsEntered t
NextEntered (Ends outcome core) = Unit {0}
NextEntered (Sticks reason) = Unit {0}

on_after : (state : Core → State) → ((c : Core) → IsEntered (state c)) → (a : After) → NextEntered (goes_on state a)
on_after state h (Onward c) = h c
on_after state h (PutsByte byte c) = h c
on_after state h (Told event c) = h c
on_after state h (Over outcome c) = tt
on_after state h (Stuck reason) = tt

on_cond : (b : Bool) (x y : Next) → NextEntered x → NextEntered y → NextEntered (cond b x y)
on_cond true x y h k = h
on_cond false x y h k = k

on_begins : (frames : List Frame) (core : Core) (to : ℕ) (xs : List Value) (o : Option LlBlock) → NextEntered (begins frames core to xs o)
on_begins frames core to xs None = tt
on_begins frames core to xs (Some block) = tt

module _ (p : LlProgram) (args : List (List ℕ)) where
  on_jump : (frames : List Frame) (core : Core) (link : LlLink) → NextEntered (jump p frames core link)
  on_jump frames core link = on_cond (any_unset (operands core.vars link.args)) _ _ tt (on_begins frames core link.to (operands core.vars link.args) (block_in (slice_get p.graphs core.function) link.to))

  on_branch : (frames : List Frame) (core : Core) (there elsewhere : LlLink) (o : Option Bool) → NextEntered (branch p frames core there elsewhere o)
  on_branch frames core there elsewhere None = tt
  on_branch frames core there elsewhere (Some b) = on_cond b _ _ (on_jump frames core there) (on_jump frames core elsewhere)

  on_caught_by : (x : Value) (frames : List Frame) (core : Core) (e : LlExit) → NextEntered (caught_by p x frames core e)
  on_caught_by x frames core (exit.Goto link) = tt
  on_caught_by x frames core (exit.If a there elsewhere) = tt
  on_caught_by x frames core (exit.OnRaise a None without) = tt
  on_caught_by x frames core (exit.OnRaise a (Some link) without) = on_jump frames (record core { vars = slice_set core.vars a x }) link
  on_caught_by x frames core (exit.Return y) = tt
  on_caught_by x frames core (exit.Raise a) = tt
  on_caught_by x frames core (exit.Fail n) = tt
  on_caught_by x frames core (exit.Raised a) = tt

  on_caught : (x : Value) (ops : List LlOp) (e : LlExit) (frames : List Frame) (core : Core) → NextEntered (caught p x ops e frames core)
  on_caught x [] e frames core = on_caught_by x frames core e
  on_caught x (o ∷ ops) e frames core = tt

  on_enters : (f : ℕ) (values : List Value) (frames : List Frame) (core : Core) (graph : LlGraph) (o : Option LlBlock) → NextEntered (enters f values frames core graph o)
  on_enters f values frames core graph None = tt
  on_enters f values frames core graph (Some block) = tt

  on_entered : (f : ℕ) (values : List Value) (frames : List Frame) (core : Core) (o : Option LlGraph) → NextEntered (entered f values frames core o)
  on_entered f values frames core None = tt
  on_entered f values frames core (Some graph) = on_enters f values frames core graph (slice_get graph.blocks 0)

  on_called_as : (result : Option CType) (params : List CType) (f : ℕ) (values : List Value) (frame : Frame) (frames : List Frame) (core : Core) (o : Option LlGraph) → NextEntered (called_as result params f values (frame ∷ frames) core o)
  on_called_as result params f values frame frames core None = tt
  on_called_as result params f values frame frames core (Some graph) = on_cond (same_result (c_result graph.result) result && same_types (param_types graph) params) _ _ tt tt

  on_called_value : (result : Option CType) (params : List CType) (o : Option ℕ) (values : List Value) (frame : Frame) (frames : List Frame) (core : Core) → NextEntered (called_value p result params o values (frame ∷ frames) core)
  on_called_value result params None values frame frames core = tt
  on_called_value result params (Some f) values frame frames core = on_called_as result params f values frame frames core (slice_get p.graphs f)

  on_gives_back : (o : LlExit) (frames : List Frame) (core : Core) → NextEntered (leaves p o frames core)
  on_gives_back (exit.Goto link) frames core = on_jump frames core link
  on_gives_back (exit.If a there elsewhere) frames core = on_branch frames core there elsewhere (flag_of (read core.vars a))
  on_gives_back (exit.OnRaise a by without) frames core = on_jump frames core without
  on_gives_back (exit.Return None) frames core = tt
  on_gives_back (exit.Return (Some x)) frames core = on_cond (is_unset (operand core.vars x)) _ _ tt tt
  on_gives_back (exit.Raise a) frames core = on_cond (is_unset (read core.vars a)) _ _ tt tt
  on_gives_back (exit.Fail n) frames core = on_after (At [] (exit.Fail n) frames) (λ c. tt) (fail core (fail_name_of n))
  on_gives_back (exit.Raised a) frames core = on_after (At [] (exit.Raised a) frames) (λ c. tt) (raised core (shapes_of p.structs) (type_in (slice_get p.graphs core.function) a) (read core.vars a))

  on_operates : (o : LlOp) (ops : List LlOp) (e : LlExit) (frames : List Frame) (core : Core) → NextEntered (operates p args o ops e frames core)
  on_operates (op.Call into f xs) ops e frames core = on_cond (any_unset (operands core.vars xs)) _ _ tt tt
  on_operates (op.CallFn into result params b xs) ops e frames core = on_cond (is_unset (read core.vars b) || any_unset (operands core.vars xs)) _ _ tt
      (on_called_value (c_result result) (map c_type params) (fun_of (read core.vars b)) (operands core.vars xs) (waiting core into ops e) frames core)
  on_operates (op.Raise a) ops e frames core = on_cond (is_unset (read core.vars a)) _ _ tt (on_caught (read core.vars a) ops e frames core)
  on_operates (op.Set a x) ops e frames core = on_after (At ops e frames) (λ c. tt) (does p args core (op.Set a x))
  on_operates (op.Unary a o x) ops e frames core = on_after (At ops e frames) (λ c. tt) (does p args core (op.Unary a o x))
  on_operates (op.Binary a o x y) ops e frames core = on_after (At ops e frames) (λ c. tt) (does p args core (op.Binary a o x y))
  on_operates (op.GetField a n b k) ops e frames core = on_after (At ops e frames) (λ c. tt) (does p args core (op.GetField a n b k))
  on_operates (op.SetField n b k x) ops e frames core = on_after (At ops e frames) (λ c. tt) (does p args core (op.SetField n b k x))
  on_operates (op.GetItem a n b i) ops e frames core = on_after (At ops e frames) (λ c. tt) (does p args core (op.GetItem a n b i))
  on_operates (op.SetItem n b i x) ops e frames core = on_after (At ops e frames) (λ c. tt) (does p args core (op.SetItem n b i x))
  on_operates (op.New a m n) ops e frames core = on_after (At ops e frames) (λ c. tt) (does p args core (op.New a m n))
  on_operates (op.NewArray a m n x) ops e frames core = on_after (At ops e frames) (λ c. tt) (does p args core (op.NewArray a m n x))
  on_operates (op.Free a) ops e frames core = on_after (At ops e frames) (λ c. tt) (does p args core (op.Free a))
  on_operates (op.Step x) ops e frames core = on_after (At ops e frames) (λ c. tt) (does p args core (op.Step x))
  on_operates (op.ExcType a n) ops e frames core = on_after (At ops e frames) (λ c. tt) (does p args core (op.ExcType a n))
  on_operates (op.ExcValue a n) ops e frames core = on_after (At ops e frames) (λ c. tt) (does p args core (op.ExcValue a n))
  on_operates (op.ExcSet a b) ops e frames core = on_after (At ops e frames) (λ c. tt) (does p args core (op.ExcSet a b))
  on_operates op.ExcClear ops e frames core = on_after (At ops e frames) (λ c. tt) (does p args core op.ExcClear)
  on_operates (op.Argc a) ops e frames core = on_after (At ops e frames) (λ c. tt) (does p args core (op.Argc a))
  on_operates (op.ArgLen a x) ops e frames core = on_after (At ops e frames) (λ c. tt) (does p args core (op.ArgLen a x))
  on_operates (op.Arg a x y) ops e frames core = on_after (At ops e frames) (λ c. tt) (does p args core (op.Arg a x y))
  on_operates (op.Put x) ops e frames core = on_after (At ops e frames) (λ c. tt) (does p args core (op.Put x))

  pub next_entered : (s : State) → NextEntered (step p args s)
  next_entered (Calling f values frames core) = on_entered f values frames core (slice_get p.graphs f)
  next_entered (At [] e frames core) = on_gives_back e frames core
  next_entered (At (o ∷ ops) e frames core) = on_operates o ops e frames core
  next_entered (Returning value [] core) = on_after (Returning value []) (λ c. tt) (ended core value)
  next_entered (Returning value (frame ∷ frames) core) = tt
  next_entered (Throwing value [] core) = tt
  next_entered (Throwing value (frame ∷ frames) core) = on_caught value frame.ops frame.exit frames (resumed frame core)
