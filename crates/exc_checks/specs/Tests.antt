-- The test of exc_ready, of blocks and graphs where these graphs raise and exceptions have this root struct.
use Rattle.std.specs.Prelude.{ℕ, ◌&&◌, not, Bool, true, List, [], ◌∷◌, slice_get}
use Rattle.ll_code.specs.declared.program.LlType.{LlType}
use Rattle.ll_code.specs.declared.program.LlOp.{LlOp}
use Rattle.ll_code.specs.declared.program.LlExit.{LlExit}
use Rattle.ll_code.specs.declared.program.LlBlock.{LlBlock}
use Rattle.ll_code.specs.declared.program.LlGraph.{LlGraph}
use Rattle.ll_live.specs.Live.{set_by}
use Rattle.exc_transform.specs.Live.{live, handler_reads}
use Rattle.exc_laws.specs.Ready.{uses_slots}
use Rattle.exc_ready.specs.Raisable.{raises_alike, exit_raises_alike, sets_none_of, ops_raisable, all_among, takes_params}

abbrev pub op_raisable : ℕ → List LlType → LlOp → List LlOp → LlExit → Bool
op_raisable root types o rest e = raises_alike root types o && not (uses_slots o) && sets_none_of (set_by o) (handler_reads rest e)

abbrev pub block_raisable : List Bool → Bool → ℕ → List LlType → LlBlock → Bool
block_raisable marks any root types block = all_among (live marks any block.ops block.exit) block.inputs && ops_raisable root types block.ops block.exit && exit_raises_alike root types block.exit

abbrev pub blocks_raisable : List Bool → Bool → ℕ → List LlType → List LlBlock → Bool
blocks_raisable marks any root types [] = true
blocks_raisable marks any root types (block ∷ blocks) = block_raisable marks any root types block && blocks_raisable marks any root types blocks

abbrev pub graph_raisable : List Bool → Bool → ℕ → LlGraph → Bool
graph_raisable marks any root graph = takes_params graph.params (slice_get graph.blocks 0) && blocks_raisable marks any root graph.types graph.blocks

abbrev pub graphs_raisable : List Bool → Bool → ℕ → List LlGraph → Bool
graphs_raisable marks any root [] = true
graphs_raisable marks any root (graph ∷ graphs) = graph_raisable marks any root graph && graphs_raisable marks any root graphs
