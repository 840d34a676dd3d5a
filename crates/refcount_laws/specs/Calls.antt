-- When a counted program calls a graph as its program does: each operand that is a reference is owned by who is called, and who waits
-- owns what it read and what is live behind the call.
use Rattle.std.specs.Prelude.{◌≡◌, ℕ, ◌+◌, Bool, List, [], ◌∷◌, Option, Some}
use Rattle.csub_tree.specs.State.{Value, Block, Core}
use Rattle.csub_tree.specs.Statement.{operand, operands}
use Rattle.csub_tree.specs.declared.tree.COperand.{COperand}
use Rattle.ll_code.specs.State.{Frame, State, Calling, At, Next, Goes}
use Rattle.ll_code.specs.Machine.{waiting, operates}
use Rattle.ll_code.specs.declared.program.LlType.{LlType}
use Rattle.ll_code.specs.declared.program.LlOp.{LlOp}
use Rattle.ll_code.specs.declared.program.LlExit.{LlExit}
use Rattle.ll_code.specs.declared.program.LlProgram.{LlProgram}
use Rattle.refcount_transform.specs.Plan.{plan_of, root_of}
use Rattle.refcount_transform.specs.Changes.{around_of, operand_referred, changed, touched, dead}
use Rattle.ll_live.specs.Live.{live}
use Rattle.refcount_transform.specs.Counted.{counted}
use Rattle.refcount_laws.specs.Made.{counts_of}
use Rattle.refcount_laws.specs.Ghost.{Ghost, memory, IsCounted}
use Rattle.refcount_laws.specs.Runs.{Leads, here}
use Rattle.refcount_laws.specs.Owned.{owned, all_hits}
use Rattle.refcount_laws.specs.Matches.{PointsTo, Stands}

-- operands that are references lead to roots
abbrev pub OperandsPoint : LlProgram → List LlType → Core → List COperand → Type 0
OperandsPoint p types core [] = Unit {0}
OperandsPoint p types core (x ∷ xs) =
    ((n : ℕ) → operand_referred (around_of (plan_of p) types) x ≡ Some n → (root_of (plan_of p) n ≡ n) × PointsTo p core.blocks core.statics n (operand core.vars x)) × OperandsPoint p types core xs

-- it comes to the call of this graph, with this left to do behind it
pub record ComesCalling (p : LlProgram) (args : List (List ℕ)) (types : List LlType) (uses : ℕ → Bool) (own : Value → ℕ) (from : State) (f : ℕ) (xs : List COperand) (into : Option ℕ) (rest : List LlOp) (ex : LlExit) (frames : List Frame) (block : ℕ) (core : Core) : Type 0 where
  pub qcore : Core
  pub g : Ghost
  pub h : List (Option Block)
  pub at : ℕ
  pub stands : Stands p core qcore g h
  pub counts : IsCounted (counted p) (counts_of (plan_of p)) g (λ r. all_hits (around_of (plan_of p) types) core.vars xs r + (owned (around_of (plan_of p) types) uses core.vars r + own r))
  pub leads : Leads (counted p) args from
      (Calling f (operands core.vars xs) (waiting (here qcore core.function block at core.vars h (memory g)) into rest ex ∷ frames) (here qcore core.function block at core.vars h (memory g)))

abbrev pub CallLeads : LlProgram → List (List ℕ) → List LlType → (ℕ → Bool) → (Value → ℕ) → State → ℕ → List COperand → Option ℕ → List LlOp → LlExit → List Frame → ℕ → Core → Next → Type 0
CallLeads p args types uses own from f xs into rest ex frames b core (Goes state) = ComesCalling p args types uses own from f xs into rest ex frames b core
CallLeads p args types uses own from f xs into rest ex frames b core other = Unit {0}

-- what a call leads to; where it is stuck nothing is said
abbrev pub CallFollows : LlProgram → List (List ℕ) → List LlType → (Value → ℕ) → LlOp → ℕ → List COperand → Option ℕ → List LlOp → List LlOp → LlExit → LlExit → List Frame → List Frame → ℕ → ℕ → Core → Core → Ghost → List (Option Block) → Type 0
CallFollows p args types own o f xs into ops rest e ex frames waits b at core qcore g h =
    CallLeads p args types (live (o ∷ ops) e) own (At (changed (around_of (plan_of p) types) o (dead (around_of (plan_of p) types) (touched o) ops e rest)) ex frames (here qcore core.function b at core.vars h (memory g))) f xs into
    (dead (around_of (plan_of p) types) (touched o) ops e rest) ex frames b core (operates p args o ops e waits core)
