-- When the low-level program stands where the flow graphs do.
use Rattle.std.specs.Prelude.{◌≡◌, ℕ, ◌-◌, pos, List, [], ◌∷◌, ◌++◌, length, replicate, slice_get, Option, Some, None, unwrap_or}
use Rattle.ann_element.specs.declared.element.Element.{Element}
use Rattle.rpy_base.specs.declared.outcome.Outcome.{Outcome}
use Rattle.csub_tree.specs.declared.tree.COperand.TheVariants.{Const}
use Rattle.csub_tree.specs.declared.tree.CConst.TheVariants.{Word}
use Rattle.csub_tree.specs.State.{Value, Unset, Core}
use Rattle.ll_code.specs.State as low
use Rattle.ll_code.specs.declared.program.LlOp.{LlOp}
use Rattle.ll_code.specs.declared.program.LlExit.{LlExit}
use Rattle.ll_code.specs.declared.program.LlOp.TheVariants.{Step}
use Rattle.ll_code.specs.declared.program.LlBlock.{LlBlock}
use Rattle.ll_code.specs.declared.program.LlGraph.{LlGraph}
use Rattle.rpy_tree.specs.Value.{Value as Meant, Ref}
use Rattle.rpy_meaning.specs.Tree.{Function}
use Rattle.rpy_meaning.specs.World.{World}
use Rattle.rpy_meaning.specs.Meaning.{class_in, returned, name_of}
use Rattle.flow_graph.specs.declared.graph.Block.{Block}
use Rattle.flow_graph.specs.declared.graph.Exit.{Exit}
use Rattle.flow_graph.specs.declared.graph.Exit.TheVariants as exit
use Rattle.flow_graph.specs.declared.graph.Op.{Op}
use Rattle.flow_meaning.specs.Machine.{Frame, State, Calling, At, Returning, Throwing, Bound, look, block_in, taken}
use Rattle.object_laws.specs.Ghost.{Ghost, Grown}
use Rattle.object_laws.specs.Represents.{Represents}
use Rattle.object_laws.specs.Values.{Holds, AllHold}
use Rattle.run_laws.specs.Points.{Setting, Stand, IsAt, BlockAt, IsException}
use Rattle.run_laws.specs.Does.{Does, Over, Passed, Waits}

module _ (s : Setting) where
  -- ---- the whole program

  abbrev pub OverIf : Option Outcome → World → low.State → Type 0
  OverIf None w from = Unit {0}
  OverIf (Some outcome) w from = Over s outcome w from

  -- what waits for the entry point ends the run with what that gives or throws
  pub record IsEntry (frame : low.Frame) : Type 0 where
    pub back : (later : Core) (g : Ghost) (x : Value) (v : Meant) (w : World) → Represents s.around.layout s.known g w.heap w.left later.blocks later.statics → w.left ≡ later.steps → Holds s.around.layout s.known g (slice_get s.around.results s.known.program.entry) x v
        → OverIf (returned v) w (low.Returning x (frame ∷ []) later)
    pub throws : (later : Core) (g : Ghost) (x : Value) (r : ℕ) (w : World) → Represents s.around.layout s.known g w.heap w.left later.blocks later.statics → w.left ≡ later.steps → IsException s g r x
        → OverIf (name_of (slice_get s.known.program.classes (class_in w r))) w (low.Throwing x (frame ∷ []) later)

  -- The low-level graph of a function: its first block pays for the call, and then does what the first block of the flow graph does, with the
  -- parameters in the first variables.
  pub record BeginsAs (f : ℕ) (function : Function) (params : List Element) : Type 0 where
    pub number : ℕ
    pub is : s.known.graph f ≡ Some number
    pub graph : LlGraph
    pub stands : slice_get s.low.graphs number ≡ Some graph
    pub first : LlBlock
    pub block : slice_get graph.blocks 0 ≡ Some first
    pub ops : List LlOp
    pub pays : first.ops ≡ Step (Const (Word (pos 1))) ∷ ops
    pub does : (b : Block) → block_in (slice_get s.graphs.graphs f) 0 ≡ Some b → Does s f b.inputs b.ops b.exit ops first.exit
    pub takes : (b : Block) (args : List Meant) (g : Ghost) (xs : List Value) → block_in (slice_get s.graphs.graphs f) 0 ≡ Some b → (passed : Passed s function params args g xs)
        → Stand s g f (taken b.inputs passed.all) (xs ++ replicate (length graph.types - length graph.params) Unset)
    pub room : (xs : List Value) (g : Ghost) (all : List Meant) → AllHold s.around.layout s.known g params xs all → length (xs ++ replicate (length graph.types - length graph.params) Unset) ≡ s.size f

  -- Each block that is reached does what that of the flow graph does, and each function that may be called begins so.
  pub record IsLowered : Type 0 where
    pub blocks : (f n : ℕ) (b : Block) (low : LlBlock) → BlockAt s f n b low → Does s f b.inputs b.ops b.exit low.ops low.exit
    pub functions : (f number : ℕ) (function : Function) (params : List Element) → s.known.graph f ≡ Some number → slice_get s.known.program.functions f ≡ Some function → slice_get s.around.params f ≡ Some params → BeginsAs f function params

  -- ---- states

  -- calls that wait, each for the one above it, which is that of a function; what is given in place of its result
  pub data Wait (g : Ghost) : List Frame → List low.Frame → ℕ → Option Meant → Type 0 where
    Entry : (frame : low.Frame) → IsEntry frame → Wait g [] (frame ∷ []) s.known.program.entry None
    Call : (waits : Frame) (names : List ℕ) (calls : List Frame) (frame : low.Frame) (frames : List low.Frame) (callee : ℕ) (instead : Option Meant) (before : Ghost) → Grown before g
        → Waits s (Does s waits.graph (names ++ waits.call.result ∷ []) waits.ops waits.exit) waits.graph names waits.env waits.call waits.ops waits.exit callee instead before frame frames → Wait g calls frames waits.graph waits.instead → Wait g (waits ∷ calls) (frame ∷ frames) callee instead

  -- the low-level program stands where the flow graphs do; an exception may have left the low-level graph before it is raised again
  pub data Stands (g : Ghost) : State → low.State → Type 0 where
    Calls : (f number : ℕ) (params : List Element) (args : List Meant) (instead : Option Meant) (calls : List Frame) (w : World) (xs : List Value) (frames : List low.Frame) (core : Core) → s.known.graph f ≡ Some number → slice_get s.around.params f ≡ Some params
        → ((function : Function) → slice_get s.known.program.functions f ≡ Some function → Passed s function params args g xs) → Represents s.around.layout s.known g w.heap w.left core.blocks core.statics → w.left ≡ core.steps → Wait g calls frames f instead
        → Stands g (Calling f args instead calls w) (low.Calling number xs frames core)
    Goes : (f : ℕ) (names : List ℕ) (ops : List Op) (e : Exit) (env : List Bound) (instead : Option Meant) (calls : List Frame) (w : World) (written : List LlOp) (ends : LlExit) (frames : List low.Frame) (core : Core) → Does s f names ops e written ends → IsAt s g f names env w core → Wait g calls frames f instead
        → Stands g (At f ops e env instead calls w) (low.At written ends frames core)
    Gives : (f : ℕ) (v : Meant) (instead : Option Meant) (calls : List Frame) (w : World) (x : Value) (frames : List low.Frame) (core : Core) → Holds s.around.layout s.known g (slice_get s.around.results f) x v → Represents s.around.layout s.known g w.heap w.left core.blocks core.statics → w.left ≡ core.steps
        → Wait g calls frames f instead → Stands g (Returning (unwrap_or instead v) calls w) (low.Returning x frames core)
    Throws : (f r : ℕ) (instead : Option Meant) (calls : List Frame) (w : World) (x : Value) (frames : List low.Frame) (core : Core) → IsException s g r x → Represents s.around.layout s.known g w.heap w.left core.blocks core.statics → w.left ≡ core.steps → Wait g calls frames f instead
        → Stands g (Throwing r calls w) (low.Throwing x frames core)
    Raises : (f v r : ℕ) (env : List Bound) (instead : Option Meant) (calls : List Frame) (w : World) (x : Value) (frames : List low.Frame) (core : Core) → look env v ≡ Some (Ref r) → IsException s g r x → Represents s.around.layout s.known g w.heap w.left core.blocks core.statics → w.left ≡ core.steps
        → Wait g calls frames f instead → Stands g (At f [] (exit.Raise v) env instead calls w) (low.Throwing x frames core)
