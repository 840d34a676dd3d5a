-- Where the states of a run stand: what is left to do is the rest of a block of the program, and who waits stands behind a call.
use Rattle.std.specs.Prelude.{◌≡◌, ℕ, suc, List, [], ◌∷◌, slice_get, drop, Some}
use Rattle.ll_code.specs.State.{Frame, State, Calling, At, Returning, Throwing}
use Rattle.ll_code.specs.Machine.{block_in}
use Rattle.ll_code.specs.declared.program.LlOp.{LlOp}
use Rattle.ll_code.specs.declared.program.LlExit.{LlExit}
use Rattle.ll_code.specs.declared.program.LlBlock.{LlBlock}
use Rattle.ll_code.specs.declared.program.LlProgram.{LlProgram}
use Rattle.ll_live.specs.Live.{set_by}

-- these operations and this exit stand in the block of the graph from this place on
pub record PlacedAt (p : LlProgram) (f n place : ℕ) (ops : List LlOp) (exit : LlExit) : Type 0 where
  pub block : LlBlock
  pub of : block_in (slice_get p.graphs f) n ≡ Some block
  pub left : drop place block.ops ≡ ops
  pub end : block.exit ≡ exit

-- the call stands right before what is left
pub record BehindCall (p : LlProgram) (frame : Frame) : Type 0 where
  pub call : LlOp
  pub before : ℕ
  pub at : frame.at ≡ suc before
  pub placed : PlacedAt p frame.graph frame.block before (call ∷ frame.ops) frame.exit
  pub into : set_by call ≡ frame.into

abbrev pub AllBehind : LlProgram → List Frame → Type 0
AllBehind p [] = Unit {0}
AllBehind p (frame ∷ frames) = BehindCall p frame × AllBehind p frames

abbrev pub IsPlaced : LlProgram → State → Type 0
IsPlaced p (Calling f values frames core) = AllBehind p frames
IsPlaced p (At ops exit frames core) = PlacedAt p core.function core.block core.at ops exit × AllBehind p frames
IsPlaced p (Returning value frames core) = AllBehind p frames
IsPlaced p (Throwing value frames core) = AllBehind p frames
