-- The variables that hold the values of a node.
use Rattle.std.specs.Prelude.{ℕ, zero, suc, ◌==◌, List, [], ◌∷◌, Option, Some, None, if◌then◌else◌}
use Rattle.std.specs.List.{flat_map}
use Rattle.flow_graph.specs.declared.graph.Block.{Block}
use Rattle.flow_graph.specs.declared.graph.Graph.{Graph}
use Rattle.flow_graph.specs.declared.graph.Graphs.{Graphs}
use Rattle.flow_graph.specs.declared.graph.Op.{Op}
use Rattle.flow_graph.specs.declared.variable.Search.{Search}
use Rattle.flow_graph.specs.declared.variable.Search.TheVariants.{Left, Found}

-- the result of an operation, where it is the value of the node
abbrev pub value_of : ℕ → Op → List ℕ
value_of node op = if op.value then (if op.node == node then op.result ∷ [] else []) else []

abbrev pub values_of : ℕ → Block → List ℕ
values_of node block = flat_map (value_of node) block.ops

abbrev pub values_in : ℕ → Graph → List ℕ
values_in node graph = flat_map (values_of node) graph.blocks

-- those of all graphs, in the order of graphs, blocks and operations
abbrev pub values : ℕ → Graphs → List ℕ
values node graphs = flat_map (values_in node) graphs.graphs

-- item number i, from 0
abbrev pub item : List ℕ → ℕ → Option ℕ
item [] i = None
item (v ∷ vs) zero = Some v
item (v ∷ vs) (suc i) = item vs i

-- what a search comes to over further values
abbrev pub sought : Search → List ℕ → Search
sought (Found v) vs = Found v
sought (Left i) [] = Left i
sought (Left zero) (v ∷ vs) = Found v
sought (Left (suc i)) (v ∷ vs) = sought (Left i) vs
