-- Graphs that raise nothing never throw.
use Rattle.std.proofs.Common.{◌≡◌, ℕ, Bool, true, false, List, [], ◌∷◌, Option, Some, None, Result, Ok, Err, refl, ap, ◌∙◌, subst, ℤ}
use Rattle.std.specs.Prelude.{slice_get, cond}
use Rattle.rpy_base.specs.declared.outcome.FailName.{FailName}
use Rattle.rpy_base.specs.declared.outcome.Outcome.TheVariants.{Returned}
use Rattle.csub_tree.specs.State.{Value, Block as Memory, Core, After, Onward, Puts as PutsByte, Told, Over as Ran, Stuck}
use Rattle.csub_tree.specs.Layout.{Shape}
use Rattle.csub_tree.specs.Operation.{is_unset, flag_of, word_of}
use Rattle.csub_tree.specs.Statement as st
use Rattle.csub_tree.specs.Statement.{read, operand, operands, any_unset, fun_of, same_result, same_types, taken_by, ended, fail, fail_name_of, on_block, raised, raised_as, bytes_of, reached}
use Rattle.csub_tree.specs.declared.stuck.StuckReason.{StuckReason}
use Rattle.csub_tree.specs.declared.tree.CType.{CType}
use Rattle.csub_tree.specs.declared.tree.CType.TheVariants as c
use Rattle.ll_code.specs.State.{Frame, State, Calling, At, Returning, Throwing, Next, Goes, Puts, Tells, Ends, Sticks}
use Rattle.ll_code.specs.Machine.{step, does, goes_on, begins, branch, jump, block_in, entered, enters, leaves, shapes_of, type_in}
use Rattle.ll_code.specs.declared.program.LlLink.{LlLink}
use Rattle.ll_code.specs.declared.program.LlOp.{LlOp}
use Rattle.ll_code.specs.declared.program.LlOp.TheVariants as op
use Rattle.ll_code.specs.declared.program.LlExit.{LlExit}
use Rattle.ll_code.specs.declared.program.LlExit.TheVariants as exit
use Rattle.ll_code.specs.declared.program.LlBlock.{LlBlock}
use Rattle.ll_code.specs.declared.program.LlGraph.{LlGraph}
use Rattle.ll_code.specs.declared.program.LlProgram.{LlProgram}
use Rattle.ll_leads.specs.Path.{Path, Stay, Go, Put, Tell}
use Rattle.throw_laws.specs.Pieces.{AreQuiet}
use Rattle.throw_laws.proofs.Catching.{stays}
use Rattle.told_laws.specs.Tests.{AreClosed, QuietGraphsNeverThrow, RaisesNothing}

module _ (p : LlProgram) (args : List (List ℕ)) (quiet : ℕ → Bool) (closed : AreClosed p quiet) where
  record FrameStill (frame : Frame) : Type 0 where
    ops : AreQuiet quiet frame.ops
    exit : RaisesNothing frame.exit
    graph : quiet frame.graph ≡ true

  abbrev AllStill : List Frame → Type 0
  AllStill [] = Unit {0}
  AllStill (frame ∷ frames) = FrameStill frame × AllStill frames

  -- nothing is raised, and all that waits raises nothing
  abbrev IsStill : State → Type 0
  IsStill (Calling g values frames core) = (quiet g ≡ true) × AllStill frames
  IsStill (At ops e frames core) = AreQuiet quiet ops × RaisesNothing e × (quiet core.function ≡ true) × AllStill frames
  IsStill (Returning x frames core) = AllStill frames
  IsStill (Throwing x frames core) = ⊥

  abbrev NextStill : Next → Type 0
  NextStill (Goes t) = IsStill t
  NextStill (Puts byte t) = IsStill t
  NextStill (Tells event t) = IsStill t
  NextStill (Ends outcome core) = Unit {0}
  NextStill (Sticks reason) = Unit {0}

  on_cond : (t : Bool) (a b : Next) → NextStill a → NextStill b → NextStill (cond t a b)
  on_cond true a b h k = h
  on_cond false a b h k = k

  -- ---- exits

  module _ (frames : List Frame) (core : Core) (calm : quiet core.function ≡ true) (all : AllStill frames) where
    on_begins : (to : ℕ) (xs : List Value) (o : Option LlGraph) → slice_get p.graphs core.function ≡ o → NextStill (begins frames core to xs (block_in o to))
    on_begins to xs None is = tt
    on_begins to xs (Some graph) is = on (slice_get graph.blocks to) refl
      where
        on : (o : Option LlBlock) → slice_get graph.blocks to ≡ o → NextStill (begins frames core to xs o)
        on None k = tt
        on (Some block) k = let it = closed core.function graph calm is to block k in (it.ops, it.exit, calm, all)

    on_jump : (link : LlLink) → NextStill (jump p frames core link)
    on_jump link = on_cond (any_unset (operands core.vars link.args)) _ _ tt (on_begins link.to (operands core.vars link.args) (slice_get p.graphs core.function) refl)

    on_branch : (there elsewhere : LlLink) (o : Option Bool) → NextStill (branch p frames core there elsewhere o)
    on_branch there elsewhere None = tt
    on_branch there elsewhere (Some b) = on_cond b _ _ (on_jump there) (on_jump elsewhere)

    on_fail : (e : LlExit) (o : Option FailName) → NextStill (goes_on (At [] e frames) (fail core o))
    on_fail e None = tt
    on_fail e (Some name) = tt

    on_name : (e : LlExit) (o : Option (List ℕ)) → NextStill (goes_on (At [] e frames) (raised_as core o))
    on_name e None = tt
    on_name e (Some name) = tt

    on_found : (e : LlExit) (r : Result Memory StuckReason) → NextStill (goes_on (At [] e frames) (on_block (λ block. raised_as core (bytes_of block.items)) r))
    on_found e (Ok block) = on_name e (bytes_of block.items)
    on_found e (Err reason) = tt

    on_raised : (e : LlExit) (shapes : List Shape) (t : Option CType) (x : Value) → NextStill (goes_on (At [] e frames) (raised core shapes t x))
    on_raised e shapes None x = tt
    on_raised e shapes (Some (c.Ptr n)) x = on_found e (reached core shapes n x)
    on_raised e shapes (Some c.Signed) x = tt
    on_raised e shapes (Some c.Char) x = tt
    on_raised e shapes (Some c.Fn) x = tt
    on_raised e shapes (Some c.Bool) x = tt

    on_leaves : (e : LlExit) → RaisesNothing e → NextStill (leaves p e frames core)
    on_leaves (exit.Goto link) h = on_jump link
    on_leaves (exit.If a there elsewhere) h = on_branch there elsewhere (flag_of (read core.vars a))
    on_leaves (exit.OnRaise a by without) h = on_jump without
    on_leaves (exit.Return None) h = all
    on_leaves (exit.Return (Some x)) h = on_cond (is_unset (operand core.vars x)) _ _ tt all
    on_leaves (exit.Raise a) h = absurd h
    on_leaves (exit.Fail n) h = on_fail (exit.Fail n) (fail_name_of n)
    on_leaves (exit.Raised a) h = on_raised (exit.Raised a) (shapes_of p.structs) (type_in (slice_get p.graphs core.function) a) (read core.vars a)

  -- ---- operations

  module _ (o : LlOp) (ops : List LlOp) (e : LlExit) (frames : List Frame) (core : Core) (rest : AreQuiet quiet ops) (ends : RaisesNothing e) (calm : quiet core.function ≡ true) (all : AllStill frames) where
    ordinary : NextStill (goes_on (At ops e frames) (does p args core o))
    ordinary = on (does p args core o) refl
      where
        still : (c : Core) → c.function ≡ core.function → IsStill (At ops e frames c)
        still c kept = (rest, ends, ap quiet kept ∙ calm, all)

        on : (a : After) → does p args core o ≡ a → NextStill (goes_on (At ops e frames) a)
        on (Onward c) h = still c (stays p args core o (Onward c) h)
        on (PutsByte byte c) h = still c (stays p args core o (PutsByte byte c) h)
        on (Told event c) h = still c (stays p args core o (Told event c) h)
        on (Ran outcome c) h = tt
        on (Stuck reason) h = tt

  operation : (o : LlOp) (ops : List LlOp) (e : LlExit) (frames : List Frame) (core : Core) → AreQuiet quiet (o ∷ ops) → RaisesNothing e → quiet core.function ≡ true → AllStill frames → NextStill (step p args (At (o ∷ ops) e frames core))
  operation (op.Call into g xs) ops e frames core h ends calm all = on_cond (any_unset (operands core.vars xs)) _ _ tt (h.0, (record { ops = h.1; exit = ends; graph = calm }, all))
  operation (op.CallFn into result params b xs) ops e frames core h ends calm all = absurd (let q : false ≡ true = h.0 in cc)
  operation (op.Raise a) ops e frames core h ends calm all = absurd (let q : false ≡ true = h.0 in cc)
  operation (op.Set a x) ops e frames core h ends calm all = ordinary (op.Set a x) ops e frames core h.1 ends calm all
  operation (op.Unary a o x) ops e frames core h ends calm all = ordinary (op.Unary a o x) ops e frames core h.1 ends calm all
  operation (op.Binary a o x y) ops e frames core h ends calm all = ordinary (op.Binary a o x y) ops e frames core h.1 ends calm all
  operation (op.GetField a m b k) ops e frames core h ends calm all = ordinary (op.GetField a m b k) ops e frames core h.1 ends calm all
  operation (op.SetField m b k x) ops e frames core h ends calm all = ordinary (op.SetField m b k x) ops e frames core h.1 ends calm all
  operation (op.GetItem a m b i) ops e frames core h ends calm all = ordinary (op.GetItem a m b i) ops e frames core h.1 ends calm all
  operation (op.SetItem m b i x) ops e frames core h ends calm all = ordinary (op.SetItem m b i x) ops e frames core h.1 ends calm all
  operation (op.New a m k) ops e frames core h ends calm all = ordinary (op.New a m k) ops e frames core h.1 ends calm all
  operation (op.NewArray a m k x) ops e frames core h ends calm all = ordinary (op.NewArray a m k x) ops e frames core h.1 ends calm all
  operation (op.Free a) ops e frames core h ends calm all = ordinary (op.Free a) ops e frames core h.1 ends calm all
  operation (op.Step x) ops e frames core h ends calm all = ordinary (op.Step x) ops e frames core h.1 ends calm all
  operation (op.ExcType a m) ops e frames core h ends calm all = ordinary (op.ExcType a m) ops e frames core h.1 ends calm all
  operation (op.ExcValue a m) ops e frames core h ends calm all = ordinary (op.ExcValue a m) ops e frames core h.1 ends calm all
  operation (op.ExcSet a b) ops e frames core h ends calm all = ordinary (op.ExcSet a b) ops e frames core h.1 ends calm all
  operation op.ExcClear ops e frames core h ends calm all = ordinary op.ExcClear ops e frames core h.1 ends calm all
  operation (op.Argc a) ops e frames core h ends calm all = ordinary (op.Argc a) ops e frames core h.1 ends calm all
  operation (op.ArgLen a x) ops e frames core h ends calm all = ordinary (op.ArgLen a x) ops e frames core h.1 ends calm all
  operation (op.Arg a x y) ops e frames core h ends calm all = ordinary (op.Arg a x y) ops e frames core h.1 ends calm all
  operation (op.Put x) ops e frames core h ends calm all = ordinary (op.Put x) ops e frames core h.1 ends calm all

  -- ---- steps

  on_entered : (g : ℕ) (values : List Value) (frames : List Frame) (core : Core) → quiet g ≡ true → AllStill frames → (o : Option LlGraph) → slice_get p.graphs g ≡ o → NextStill (entered g values frames core o)
  on_entered g values frames core q all None is = tt
  on_entered g values frames core q all (Some graph) is = on (slice_get graph.blocks 0) refl
    where
      on : (o : Option LlBlock) → slice_get graph.blocks 0 ≡ o → NextStill (enters g values frames core graph o)
      on None k = tt
      on (Some block) k = let it = closed g graph q is 0 block k in (it.ops, it.exit, q, all)

  step_still : (s : State) → IsStill s → NextStill (step p args s)
  step_still (Calling g values frames core) h = on_entered g values frames core h.0 h.1 (slice_get p.graphs g) refl
  step_still (At [] e frames core) h = on_leaves frames core h.2 h.3 e h.1
  step_still (At (o ∷ ops) e frames core) h = operation o ops e frames core h.0 h.1 h.2 h.3
  step_still (Returning value [] core) h = on (word_of value)
    where
      on : (o : Option ℤ) → NextStill (goes_on (Returning value []) (st.on (λ n. Ran (Returned n) (record core { vars = [] })) o))
      on None = tt
      on (Some n) = tt
  step_still (Returning value (frame ∷ frames) core) h = (h.0.ops, h.0.exit, h.0.graph, h.1)
  step_still (Throwing value frames core) h = absurd h

  still_along : {s t : State} {text : List ℕ} → IsStill s → Path p args s text t → IsStill t
  still_along still (Stay s) = still
  still_along {s = s} still (Go {t = u} h path) = still_along {s = u} (subst NextStill h (step_still s still)) path
  still_along {s = s} still (Put {t = u} h path) = still_along {s = u} (subst NextStill h (step_still s still)) path
  still_along {s = s} still (Tell {t = u} h path) = still_along {s = u} (subst NextStill h (step_still s still)) path

pub quiet_graphs_never_throw : QuietGraphsNeverThrow
quiet_graphs_never_throw p args quiet closed g q values core end text x path = still_along p args quiet closed {s = Calling g values [] core} {t = Throwing x [] end} (q, tt) path
