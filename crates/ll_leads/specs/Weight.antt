-- How many variables stand in the graphs that a call leads to.
use Rattle.std.specs.Prelude.{◌≡◌, ◌≤◌, ℕ, ◌+◌, List, length, slice_get, Option, Some}
use Rattle.csub_tree.specs.declared.tree.COperand.{COperand}
use Rattle.ll_code.specs.declared.program.LlType.{LlType}
use Rattle.ll_code.specs.declared.program.LlOp.{LlOp}
use Rattle.ll_code.specs.declared.program.LlOp.TheVariants as op
use Rattle.ll_code.specs.declared.program.LlBlock.{LlBlock}
use Rattle.ll_code.specs.declared.program.LlGraph.{LlGraph}
use Rattle.ll_code.specs.declared.program.LlProgram.{LlProgram}

-- an operation of the graph
pub record Within (graph : LlGraph) (o : LlOp) : Type 0 where
  pub n : ℕ
  pub place : ℕ
  pub block : LlBlock
  pub of : slice_get graph.blocks n ≡ Some block
  pub at : slice_get block.ops place ≡ Some o

-- The graph of this number has no more than so many parameters, nor, with those that it calls, one at a time, variables. It calls no
-- function value.
pub data Weighs (p : LlProgram) : ℕ → ℕ → Type 0 where
  Weigh : {f w : ℕ} (graph : LlGraph) (below : ℕ) → slice_get p.graphs f ≡ Some graph → length graph.types + below ≤ w → length graph.params ≤ w
      → ((into : Option ℕ) (g : ℕ) (xs : List COperand) → Within graph (op.Call into g xs) → Weighs p g below)
      → ((into : Option ℕ) (result : LlType) (params : List LlType) (b : ℕ) (xs : List COperand) → Within graph (op.CallFn into result params b xs) → ⊥) → Weighs p f w
