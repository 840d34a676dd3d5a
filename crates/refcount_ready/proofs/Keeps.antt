-- What each state of a run keeps, beside its types.
use Rattle.std.proofs.Common.{◌≡◌, ℕ, Bool, true, false, List, [], ◌∷◌, length, Option, Some, None}
use Rattle.std.specs.Prelude.{slice_get, slice_index_or, pos}
use Rattle.csub_tree.specs.State.{Value, Word, Ptr, Block, Core}
use Rattle.csub_tree.specs.Operation.{is_unset}
use Rattle.csub_tree.specs.Statement.{read, operand, any_unset}
use Rattle.ll_code.specs.declared.program.LlType.{LlType}
use Rattle.ll_code.specs.declared.program.LlType.TheVariants as type
use Rattle.ll_code.specs.declared.program.LlOp.{LlOp}
use Rattle.ll_code.specs.declared.program.LlOp.TheVariants as op
use Rattle.ll_code.specs.declared.program.LlExit.{LlExit}
use Rattle.ll_code.specs.declared.program.LlGraph.{LlGraph}
use Rattle.ll_code.specs.declared.program.LlProgram.{LlProgram}
use Rattle.ll_code.specs.State.{Frame, State, Calling, At, Returning, Throwing, Next, Goes, Puts, Tells, Ends, Sticks}
use Rattle.ll_code.specs.Typed.{result_ok}
use Rattle.ll_held.specs.Roots.{waits_for}
use Rattle.ll_live.specs.Live.{live}
use Rattle.refcount_transform.specs.Plan.{plan_of, reference_given}
use Rattle.refcount_laws.specs.Before.{NoBlocksIn}
use Rattle.refcount_checks.specs.Countable.{is_number}
use Rattle.refcount_ready.proofs.Pointers.{Sound, AreCounted}

-- blocks are counted, no static names a block, and the slots hold what is set, which is no block where they refer to nothing that is
-- counted
pub record MemoryKeeps (p : LlProgram) (blocks : List (Option Block)) (statics : List Block) (exc_type exc_value : Value) : Type 0 where
  pub counted : AreCounted p blocks
  pub apart : NoBlocksIn statics
  pub set_type : is_unset exc_type ≡ false
  pub set_value : is_unset exc_value ≡ false
  pub slot_type : (m : ℕ) → exc_type ≡ Ptr m → (n : ℕ) × ((plan_of p).slots.kind ≡ Some n)
  pub slot_value : (m : ℕ) → exc_value ≡ Ptr m → (n : ℕ) × ((plan_of p).slots.value ≡ Some n)

abbrev pub CoreKeeps : LlProgram → Core → Type 0
CoreKeeps p core = MemoryKeeps p core.blocks core.statics core.exc_type core.exc_value

-- variables that are used and are pointers are set
abbrev pub SetIn : List LlType → (ℕ → Bool) → List Value → Type 0
SetIn types uses vars = (v n : ℕ) → uses v ≡ true → slice_get types v ≡ Some (type.Ptr n) → is_unset (read vars v) ≡ false

-- where the number of an array of references is set next, it is that
abbrev pub NumberNext : LlProgram → Core → List LlOp → Type 0
NumberNext p core (op.SetField n v k x ∷ ops) = is_number (plan_of p) n k ≡ true → (b : ℕ) (block : Block) → read core.vars v ≡ Ptr b → slice_index_or core.blocks b None ≡ Some block → operand core.vars x ≡ Word (pos (length block.items))
NumberNext p core other = Unit {0}

-- a call that waits for a result of this type, and drops no reference
pub record FrameKeeps (p : LlProgram) (result : LlType) (graph : LlGraph) (frame : Frame) : Type 0 where
  pub of : slice_get p.graphs frame.graph ≡ Some graph
  pub typed : result_ok graph.types frame.into result ≡ true
  pub long : length frame.vars ≡ length graph.types
  pub set : SetIn graph.types (waits_for p frame) frame.vars
  pub drops : frame.into ≡ None → reference_given (plan_of p).counted (Some result) ≡ None
  pub number : (core : Core) → NumberNext p core frame.ops

abbrev pub FramesKeep : LlProgram → LlType → List Frame → Type 0
FramesKeep p result [] = Unit {0}
FramesKeep p result (frame ∷ frames) = (graph : LlGraph) × FrameKeeps p result graph frame × FramesKeep p graph.result frames

pub record CallingKeeps (p : LlProgram) (f : ℕ) (values : List Value) (frames : List Frame) (core : Core) (graph : LlGraph) : Type 0 where
  pub of : slice_get p.graphs f ≡ Some graph
  pub set : any_unset values ≡ false
  pub waiting : FramesKeep p graph.result frames
  pub keeps : CoreKeeps p core

pub record AtKeeps (p : LlProgram) (ops : List LlOp) (exit : LlExit) (frames : List Frame) (core : Core) (graph : LlGraph) : Type 0 where
  pub of : slice_get p.graphs core.function ≡ Some graph
  pub set : SetIn graph.types (live ops exit) core.vars
  pub number : NumberNext p core ops
  pub waiting : FramesKeep p graph.result frames
  pub keeps : CoreKeeps p core

pub record ReturningKeeps (p : LlProgram) (value : Value) (frames : List Frame) (core : Core) (graph : LlGraph) : Type 0 where
  pub of : slice_get p.graphs core.function ≡ Some graph
  pub sound : Sound p core.blocks core.statics graph.result value
  pub waiting : FramesKeep p graph.result frames
  pub keeps : CoreKeeps p core

abbrev pub StateKeeps : LlProgram → State → Type 0
StateKeeps p (Calling f values frames core) = (graph : LlGraph) × CallingKeeps p f values frames core graph
StateKeeps p (At ops exit frames core) = (graph : LlGraph) × AtKeeps p ops exit frames core graph
StateKeeps p (Returning value frames core) = (graph : LlGraph) × ReturningKeeps p value frames core graph
StateKeeps p (Throwing value frames core) = ⊥

abbrev pub NextKeeps : LlProgram → Next → Type 0
NextKeeps p (Goes state) = StateKeeps p state
NextKeeps p (Puts byte state) = StateKeeps p state
NextKeeps p (Tells event state) = StateKeeps p state
NextKeeps p (Ends outcome core) = Unit {0}
NextKeeps p (Sticks reason) = Unit {0}
