-- Calls of a well-typed program are followed.
use Rattle.std.proofs.Common.{◌≡◌, ℕ, ◌+◌, true, List, length, Option, Some, subst, arith}
use Rattle.csub_tree.specs.State.{Value, Block, Core}
use Rattle.csub_tree.specs.Statement.{read}
use Rattle.csub_tree.specs.declared.tree.COperand.{COperand}
use Rattle.ll_code.specs.State.{Frame}
use Rattle.ll_code.specs.declared.program.LlOp.{LlOp}
use Rattle.ll_code.specs.declared.program.LlOp.TheVariants as op
use Rattle.ll_code.specs.declared.program.LlExit.{LlExit}
use Rattle.ll_code.specs.declared.program.LlType.{LlType}
use Rattle.ll_code.specs.declared.program.LlProgram.{LlProgram}
use Rattle.refcount_laws.specs.Ghost.{Ghost}
use Rattle.refcount_laws.specs.Owned.{Roomy}
use Rattle.csub_tree.specs.Statement.{fun_of}
use Rattle.refcount_laws.specs.Calls.{OperandsPoint}
use Rattle.ll_code.specs.Typed.{IsWellTyped}
use Rattle.refcount_laws.specs.Made.{leads_to_roots}
use Rattle.refcount_laws.specs.Before.{Before}
use Rattle.refcount_laws.specs.Calls.{CallFollows}
use Rattle.refcount_laws.proofs.Numbers.{all_based}
use Rattle.refcount_laws.proofs.Places.{counted_counting}
use Rattle.refcount_laws.proofs.Operations.{structs_typed}
use Rattle.refcount_laws.proofs.Invoking.{call_followed, call_fn_followed}

module _ (p : LlProgram) (ok : IsWellTyped p) (leads : leads_to_roots p ≡ true) (args : List (List ℕ)) (types : List LlType) (own : Value → ℕ) (ops rest : List LlOp) (e ex : LlExit) (frames waits : List Frame) (b at : ℕ) (core qcore : Core) (g : Ghost)
    (h : List (Option Block)) where
  more : (n : ℕ) → Roomy g n → Roomy g (n + 0)
  more n room = subst (Roomy g) (let z : n ≡ n + 0 = omega arith in z) room

  pub call_one : (into : Option ℕ) (f : ℕ) (xs : List COperand) → OperandsPoint p types core xs → Roomy g (length xs) → Before p types own (op.Call into f xs) ops e core qcore g h
      → CallFollows p args types own (op.Call into f xs) f xs into ops rest e ex frames waits b at core qcore g h
  call_one into f xs points room d =
      call_followed p (all_based p.structs (structs_typed p ok)) (counted_counting p ok leads) args types d.roots own ops rest e ex frames b core qcore g h at d.fits d.stands 0 into f xs waits points (more (length xs) room) d.counts

  pub call_fn_one : (into : Option ℕ) (result : LlType) (params : List LlType) (v f : ℕ) (xs : List COperand) → OperandsPoint p types core xs → Roomy g (length xs) → fun_of (read core.vars v) ≡ Some f → Before p types own (op.CallFn into result params v xs) ops e core qcore g h
      → CallFollows p args types own (op.CallFn into result params v xs) f xs into ops rest e ex frames waits b at core qcore g h
  call_fn_one into result params v f xs points room is_f d =
      call_fn_followed p (all_based p.structs (structs_typed p ok)) (counted_counting p ok leads) args types d.roots own ops rest e ex frames b core qcore g h at d.fits d.stands 0 into result params v xs waits points (more (length xs) room) d.counts f is_f
