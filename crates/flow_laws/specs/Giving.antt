-- What holds the value of a node.
use Rattle.std.specs.Prelude.{◌≡◌, ℕ, true, slice_get, Some}
use Rattle.rpy_resolved.specs.declared.tree.Function.{Function}
use Rattle.rpy_resolved.specs.declared.tree.Resolved.{Resolved}
use Rattle.flow_graph.specs.declared.graph.Block.{Block}
use Rattle.flow_graph.specs.declared.graph.Graph.{Graph}
use Rattle.flow_graph.specs.declared.graph.Graphs.{Graphs}
use Rattle.flow_graph.specs.declared.graph.Op.{Op}
use Rattle.flow_trees.specs.Ops.{InFunction}
use Rattle.flow_space.specs.Trees.{function_of}

-- The variable is the result of an operation in the graph of a function, which gives the value of the node, and is what a part of the
-- function's tree with this node does.
pub record Gives (program : Resolved) (gs : Graphs) (node variable : ℕ) : Type 0 where
  pub number : ℕ
  pub function : Function
  pub graph : Graph
  pub of_function : slice_get program.functions number ≡ Some function
  pub of_graph : slice_get gs.graphs number ≡ Some graph
  pub place : ℕ
  pub block : Block
  pub of_block : slice_get graph.blocks place ≡ Some block
  pub turn : ℕ
  pub op : Op
  pub of_op : slice_get block.ops turn ≡ Some op
  pub is_result : op.result ≡ variable
  pub in_tree : InFunction node true op.op (function_of program.sites function)
