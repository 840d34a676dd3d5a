-- How the graphs of functions begin.
use Rattle.std.specs.Prelude.{◌≡◌, ◌≤◌, ℕ, [], length, slice_get, Some}
use Rattle.rpy_resolved.specs.declared.tree.Function.{Function}
use Rattle.rpy_resolved.specs.declared.tree.Resolved.{Resolved}
use Rattle.flow_graph.specs.declared.graph.Block.{Block}
use Rattle.flow_graph.specs.declared.graph.Graph.{Graph}
use Rattle.flow_graph.specs.declared.graph.Graphs.{Graphs}
use Rattle.flow_graph.specs.Whole.{CountFrom}
use Rattle.flow_space.specs.Placed.{NodesAt}
use Rattle.rtyped_runs.specs.Premises.{AreOwn}

-- graphs that are counted are those of the functions with their numbers
abbrev pub GraphsAreOwn : Type 0
GraphsAreOwn = (gs : Graphs) → CountFrom 0 gs.graphs → AreOwn gs.graphs

-- The first block of a function's graph takes its locals, of which the parameters are the first, and does nothing.
pub record Begins (function : Function) (b : Block) : Type 0 where
  pub locals : length b.inputs ≡ function.locals
  pub params : length function.defaults ≤ length b.inputs
  pub does : b.ops ≡ []

abbrev pub FunctionsBegin : Type 0
FunctionsBegin = (r : Resolved) (gs : Graphs) → NodesAt r gs → (f : ℕ) (graph : Graph) → slice_get gs.graphs f ≡ Some graph
    → (function : Function) × (slice_get r.functions f ≡ Some function) × ((b : Block) × (slice_get graph.blocks 0 ≡ Some b) × Begins function b)

-- The inputs of its first block, and so the parameters, are 0, 1, 2 and so on.
abbrev pub ParametersAreCounted : Type 0
ParametersAreCounted = (r : Resolved) (gs : Graphs) → NodesAt r gs → (f : ℕ) (graph : Graph) → slice_get gs.graphs f ≡ Some graph → (b : Block) → slice_get graph.blocks 0 ≡ Some b → (i v : ℕ) → slice_get b.inputs i ≡ Some v → v ≡ i
