-- Steps that make, free and write no block, and call nothing; and when one state holds no more than another.
use Rattle.std.specs.Prelude.{◌≡◌, ◌≤◌, ◌<◌, ℕ, Bool, true, false, List, [], ◌∷◌, slice_get, Some}
use Rattle.csub_tree.specs.State.{Block, Core}
use Rattle.ll_code.specs.State.{Frame, State, Calling, At, Returning, Throwing, Goes}
use Rattle.ll_code.specs.Machine.{step}
use Rattle.ll_code.specs.declared.program.LlOp.{LlOp}
use Rattle.ll_code.specs.declared.program.LlOp.TheVariants as op
use Rattle.ll_code.specs.declared.program.LlBlock.{LlBlock}
use Rattle.ll_code.specs.declared.program.LlGraph.{LlGraph}
use Rattle.ll_code.specs.declared.program.LlProgram.{LlProgram}
use Rattle.ll_live.specs.Live.{among, live}
use Rattle.ll_held.specs.Roots.{roots, waiting_roots, core_of}
use Rattle.ll_held.specs.Held.{times, references, Held}

abbrev pub is_quiet_operation : LlOp → Bool
is_quiet_operation (op.Set a x) = true
is_quiet_operation (op.Binary a o x y) = true
is_quiet_operation (op.GetField a n b k) = true
is_quiet_operation (op.ExcType a n) = true
is_quiet_operation (op.ExcValue a n) = true
is_quiet_operation (op.ExcSet a b) = true
is_quiet_operation op.ExcClear = true
is_quiet_operation other = false

abbrev pub is_quiet : State → Bool
is_quiet (Calling f values frames core) = false
is_quiet (At [] exit frames core) = true
is_quiet (At (o ∷ ops) exit frames core) = is_quiet_operation o
is_quiet (Returning value frames core) = true
is_quiet (Throwing value frames core) = false

-- some quiet steps lead from the one to the other
pub data Calm (p : LlProgram) (args : List (List ℕ)) : State → State → Type 0 where
  Stay : (s : State) → Calm p args s s
  Go : (s t u : State) → step p args s ≡ Goes t → is_quiet s ≡ true → Calm p args t u → Calm p args s u

-- ---- blocks of programs

-- each block reads its inputs alone, and what it sets itself
abbrev pub ReadsInputs : LlProgram → Type 0
ReadsInputs p = (f : ℕ) (graph : LlGraph) → slice_get p.graphs f ≡ Some graph → (n : ℕ) (block : LlBlock) → slice_get graph.blocks n ≡ Some block → (v : ℕ) → live block.ops block.exit v ≡ true → among v block.inputs ≡ true

-- the statics name no block
abbrev pub StaticsAreApart : Core → Type 0
StaticsAreApart core = (g : ℕ) (block : Block) → slice_get core.statics g ≡ Some block → (b : ℕ) → times b block.fields ≡ 0

-- ---- states

abbrev pub frames_of : State → List Frame
frames_of (Calling f values frames core) = frames
frames_of (At ops exit frames core) = frames
frames_of (Returning value frames core) = frames
frames_of (Throwing value frames core) = frames

-- the same blocks and statics; what the roots of the second name is held in the first, and who waits there holds as many references
pub record Near (p : LlProgram) (s t : State) : Type 0 where
  pub blocks : (core_of t).blocks ≡ (core_of s).blocks
  pub statics : (core_of t).statics ≡ (core_of s).statics
  pub held : (b : ℕ) → 0 < times b (roots p t) → Held (core_of s).blocks (roots p s) b
  pub waiting : references (waiting_roots p (frames_of t)) ≤ references (waiting_roots p (frames_of s))
